-- The entries that are made of those of the left tree are those of the joined tree.
use Rattle.std.specs.Prelude.{map, option_map, reverse}
use Rattle.std.specs.List.{AllByRecursion}
use Rattle.std.specs.declared.cmp.Ordering.TheVariants.{Equal}
use Rattle.std.specs.Cmp.{first_so, tied_itself}
use Rattle.std.proofs.Common.{◌≡◌, ℕ, ◌<◌, Bool, true, false, List, [], ◌∷◌, length, get_or, Option, Some, None, refl, sym, ◌∙◌, ap, subst, arith}
use Rattle.std.proofs.lemmas.Map.Keys.{IsDistinct-from_apart}
use Rattle.mtn_base.specs.Names.{same_name, name_cmp}
use Rattle.mtn_base.specs.declared.id.Id.{Id}
use Rattle.mtn_roster.specs.declared.entry.Entry.{Entry}
use Rattle.mtn_roster.specs.Tree.{Tree, IsSane, IsSaneMap, entry_of, path_of, in_order}
use Rattle.mtn_roster.specs.Building.{NamesDiffer, KeysDiffer, IsBuildable, with_keys_in_order, tree_of}
use Rattle.mtn_base.proofs.Finding.{Split, later}
use Rattle.mtn_base.proofs.Members.{head, taken}
use Rattle.mtn_base.proofs.Tests.{same_name-is}
use Rattle.mtn_roster.proofs.Forest.{same_some, node_there}
use Rattle.mtn_base.proofs.Orders.{names_total}
use Rattle.mtn_roster.proofs.Ordered.{forest_of}
use Rattle.mtn_base.proofs.Sorting.{less_at, long_map}
use Rattle.mtn_roster.proofs.Leading.{get_map}
use Rattle.mtn_changeset_laws.specs.Joining.{join_fault, joined_entry, counterpart, other_attrs, joined}
use Rattle.mtn_changeset_laws.specs.Laws.{CommonAreKnown}
use Rattle.mtn_changeset_laws.proofs.Joins.{one_name, joined_is_sane}
use Rattle.mtn_roster.specs.Attrs.{are_keyed}
use Rattle.mtn_join.specs.Pairing.{unordered_entry}
use Rattle.mtn_join.proofs.Keyed.{ordered_both, both_differ}
use Rattle.mtn_roster.proofs.Along.{keyed}

module _ (l r : Tree) (new : Id) (sl : IsSane l) (sr : IsSane r) where
  abbrev pub U : Entry → Entry
  U = unordered_entry l r new

  module _ (al ar : Id → Bool) (fine : join_fault new al ar l r ≡ None) (known : CommonAreKnown l r new al ar) where
    abbrev ψ : Entry → Entry
    ψ = joined_entry l r new

    one_of_name : (x z : Entry) → entry_of l x.name ≡ Some x → entry_of l z.name ≡ Some z → (ψ x).name ≡ (ψ z).name → x ≡ z
    one_of_name x z h k e = one_name l r new al ar sl sr fine known x z h k e

    -- a list of nodes without repeats, joined, has names without repeats
    differ_joined : (xs : List Entry) → ((x : Entry) → Split xs x → entry_of l x.name ≡ Some x) → ((i j : ℕ) (d : Entry) → i < j → j < length xs → get_or xs i d ≡ get_or xs j d → ⊥) → NamesDiffer (map U xs)
    differ_joined xs there apart = IsDistinct-from_apart (λ (e : Entry) (f : Entry). same_name e.name f.name) (map U xs) (λ i j d lt low.
        let lj : j < length xs = subst (λ n. j < n) (long_map U xs) low in
        let li : i < length xs = omega arith in
        let a = taken xs i li in
        let b = taken xs j lj in
        let ua = taken (map U xs) i (subst (λ n. i < n) (sym (long_map U xs)) li) in
        let ub = taken (map U xs) j low in
        let fa : ua.0 ≡ U a.0 = same_some ua.1 (get_map U xs i ∙ ap (option_map U) a.1) in
        let fb : ub.0 ≡ U b.0 = same_some ub.1 (get_map U xs j ∙ ap (option_map U) b.1) in
        let ga : get_or (map U xs) i d ≡ U a.0 = ua.3 d ∙ fa in
        let gb : get_or (map U xs) j d ≡ U b.0 = ub.3 d ∙ fb in
        elim (same_name (get_or (map U xs) i d).name (get_or (map U xs) j d).name) as (λ t. same_name (get_or (map U xs) i d).name (get_or (map U xs) j d).name ≡ t → t ≡ false) [
          | false ↦ λ q. refl
          | true ↦ λ q. absurd (
              let names : (U a.0).name ≡ (U b.0).name = sym (ap (λ (e : Entry). e.name) ga) ∙ same_name-is _ _ q ∙ ap (λ (e : Entry). e.name) gb in
              let one : a.0 ≡ b.0 = one_of_name a.0 b.0 (there a.0 a.2) (there b.0 b.2) names in
              apart i j a.0 lt lj (a.3 a.0 ∙ one ∙ sym (b.3 a.0)))
        ] refl)

    there : (x : Entry) → Split l x → entry_of l x.name ≡ Some x
    there x s = (forest_of l sl).distinct x s

    differ_here : NamesDiffer (map U l)
    differ_here = differ_joined l there (λ i j d lt low same.
        let less = less_at name_cmp (λ (e : Entry). e.name) names_total l i j d (first_so _ _ sl.ordered) lt low in
        let equal : name_cmp (get_or l i d).name (get_or l j d).name ≡ Equal = ap (λ (x : Entry). name_cmp (get_or l i d).name x.name) (sym same) ∙ tied_itself names_total (get_or l i d).name in
        cc)

    -- once their keys are in order, they are the joined entries
    keyed_entry : (x : Entry) → entry_of l x.name ≡ Some x → with_keys_in_order (U x) ≡ ψ x
    keyed_entry x h = λ j. record (ψ x) { attrs = ordered_both x.attrs (other_attrs (counterpart l r x)) (keyed l sl x h) j }

    keyed_entries : (xs : List Entry) → ((x : Entry) → Split xs x → entry_of l x.name ≡ Some x) → map with_keys_in_order (map U xs) ≡ map ψ xs
    keyed_entries [] there = refl
    keyed_entries (x ∷ xs) there =
        let front = keyed_entry x (there x (head x xs)) in
        let rest = keyed_entries xs (λ z s. there z (later x xs z s)) in
        λ j. front j ∷ rest j

    pub made_tree : tree_of (map U l) ≡ joined l r new
    made_tree = ap in_order (keyed_entries l there)

    other_keyed : (x : Entry) → entry_of l x.name ≡ Some x → KeysDiffer (U x)
    other_keyed x h = both_differ x.attrs (other_attrs (counterpart l r x)) (keyed l sl x h) (at (counterpart l r x) refl)
      where
        at : (o : Option Entry) → counterpart l r x ≡ o → are_keyed (other_attrs o) ≡ true
        at None e = refl
        at (Some y) e = keyed r sr y (node_there r (forest_of r sr) (reverse (path_of l x)) y e)

    keys_apart : (xs : List Entry) → ((x : Entry) → Split xs x → entry_of l x.name ≡ Some x) → AllByRecursion KeysDiffer (map U xs)
    keys_apart [] there = tt
    keys_apart (x ∷ xs) there = (other_keyed x (there x (head x xs)), keys_apart xs (λ z s. there z (later x xs z s)))

    pub made_buildable : IsBuildable (map U l)
    made_buildable = record {
      names = differ_here;
      keys = keys_apart l there;
      sane = subst (λ (t : Tree). IsSaneMap (entry_of t)) (sym made_tree) (joined_is_sane l r new al ar sl sr fine known).sane;
    }
