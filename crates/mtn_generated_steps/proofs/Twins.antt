-- The first revision has the same manifest under every id.
use Rattle.std.proofs.Common.{◌≡◌, ℕ, Bool, true, false, cond, List, [], ◌∷◌, length, Option, Some, None, refl, sym, ◌∙◌, ap, subst, inr, arith}
use Rattle.mtn_base.specs.Hex.{id_of}
use Rattle.mtn_base.specs.Names.{same_name}
use Rattle.mtn_base.specs.declared.id.Id.{Id}
use Rattle.mtn_base.specs.declared.name.NodeName.{NodeName}
use Rattle.mtn_base.proofs.Tests.{same_name-is, same_name-self}
use Rattle.mtn_between.specs.Twins.{AreTwins, AreTwinsAt, IsTwinOf}
use Rattle.mtn_changeset_laws.specs.Changes.{Occupant, occupant}
use Rattle.mtn_generated_laws.proofs.Readable.{digit_path}
use Rattle.mtn_manifest.specs.Manifest.{manifest_of}
use Rattle.mtn_merging.proofs.OneText.{manifests_same}
use Rattle.mtn_roster.specs.Tree.{EndsAtRoot, IsSane, Tree, entry_of, node_at}
use Rattle.mtn_roster.specs.Tree.EndsAtRoot.{top}
use Rattle.mtn_roster.specs.declared.entry.Body.TheVariants.{Dir}
use Rattle.mtn_roster.specs.declared.entry.Entry.{Entry}
use Rattle.mtn_roster.specs.declared.entry.Slot.{Slot}
use Rattle.mtn_roster.specs.declared.entry.Slot.TheVariants.{Below, Root}
use Rattle.mtn_roster.proofs.Forest.{name_of}
use Rattle.mtn_generated_steps.proofs.First.{IsFirst, all, made, new, new_sane, node, nowhere, seated}
use Rattle.mtn_generated_steps.proofs.First.IsFirst.{first_dir, first_file, first_root}

-- a tree of one node, whose birth is no id
abbrev bare : Entry
bare = record { name = record { birth = id_of []; path = [] }; slot = Root; body = Dir; attrs = [] }

abbrev bare_tree : Tree
bare_tree = bare ∷ []

only_bare : (n : NodeName) (e : Entry) → entry_of bare_tree n ≡ Some e → e ≡ bare
only_bare n e h = by (same_name bare.name n) h
  where
    by : (b : Bool) → cond b (Some bare) None ≡ Some e → e ≡ bare
    by true is = let same : bare ≡ e = cc in sym same
    by false is = absurd cc

bare_names : (n m : NodeName) (e g : Entry) → entry_of bare_tree n ≡ Some e → entry_of bare_tree m ≡ Some g → n ≡ m
bare_names n m e g h k = sym (name_of bare_tree n e h) ∙ ap (λ (x : Entry). x.name) (only_bare n e h ∙ sym (only_bare m g k)) ∙ name_of bare_tree m g k

is_root : (n : NodeName) (e : Entry) → entry_of bare_tree n ≡ Some e → Root ≡ e.slot
is_root n e h = sym (ap (λ (x : Entry). x.slot) (only_bare n e h))

bare_sane : IsSane bare_tree
bare_sane = record {
  ordered = refl;
  sane = record {
    root = (bare.name, bare, ap (λ b. cond {A = Option Entry} b (Some bare) None) (same_name-self bare.name), refl, refl);
    one_root = λ n m e g h k p q. bare_names n m e g h k;
    parents = λ n parent e name h is. absurd (let both : Root ≡ Below parent name = is_root n e h ∙ is in cc);
    slots = λ n m e g h k p. bare_names n m e g h k;
    rooted = λ n e h. subst (λ (s : Slot). EndsAtRoot (entry_of bare_tree) s) (is_root n e h) top;
    not_mtn = λ n m e r h k root is. (let both = is_root n e h ∙ is in cc);
  };
}

not_there : (x : Id) (p : List (List ℕ)) → length x.0 ≡ 20 → entry_of bare_tree (record { birth = x; path = p }) ≡ None
not_there x p twenty = by (same_name bare.name (record { birth = x; path = p })) refl
  where
    by : (b : Bool) → same_name bare.name (record { birth = x; path = p }) ≡ b → cond {A = Option Entry} b (Some bare) None ≡ None
    by false e = refl
    by true e = absurd (let long : length (id_of []).0 ≡ length x.0 = ap (λ (n : NodeName). length n.birth.0) (same_name-is bare.name (record { birth = x; path = p }) e) in omega (arith, long, twenty))

module _ (f : List ℕ → List ℕ) (x y : Id) (twenty_x : length x.0 ≡ 20) (twenty_y : length y.0 ≡ 20) where
  twin : (p : List (List ℕ)) (z : Occupant) → IsFirst f p z → AreTwins bare_tree (made f x z) (made f y z)
  twin p z first_root = record { body = refl; attrs = refl; name = inr (not_there x [] twenty_x, not_there y [] twenty_y) }
  twin p z first_dir = record { body = refl; attrs = refl; name = inr (not_there x ((100 ∷ 49 ∷ []) ∷ []) twenty_x, not_there y ((100 ∷ 49 ∷ []) ∷ []) twenty_y) }
  twin p z (first_file j few) = record { body = refl; attrs = refl; name = inr (not_there x (digit_path f j) twenty_x, not_there y (digit_path f j) twenty_y) }

  twins : IsTwinOf bare_tree (new f x) (new f y)
  twins p = by (occupant [] (all f) p) refl
    where
      by : (o : Option Occupant) → occupant [] (all f) p ≡ o → AreTwinsAt bare_tree (node_at (new f x) p) (node_at (new f y) p)
      by None is = subst (λ u. AreTwinsAt bare_tree u (node_at (new f y) p)) (sym (nowhere f x p is)) (subst (λ u. AreTwinsAt bare_tree None u) (sym (nowhere f y p is)) tt)
      by (Some z) is = subst (λ u. AreTwinsAt bare_tree u (node_at (new f y) p)) (sym (node f x p z is))
          (subst (λ u. AreTwinsAt bare_tree (Some (made f x z)) u) (sym (node f y p z is)) (twin p z (seated f x p z is)))

  pub same_manifest : manifest_of (new f x) ≡ manifest_of (new f y)
  same_manifest = manifests_same bare_tree (new f x) (new f y) bare_sane (new_sane f x) (new_sane f y) twins
