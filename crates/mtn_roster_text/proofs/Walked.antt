-- The nodes along the walk, each with its marking.
use Rattle.std.specs.Prelude.{map, option_and_then, option_copied, option_map, slice_get, unwrap_or, IsSome}
use Rattle.std.proofs.Common.{◌≡◌, ℕ, zero, suc, true, List, [], ◌∷◌, Option, Some, None, Bor, refl, sym, ap, ◌∙◌, subst}
use Rattle.mtn_base.specs.Names.{bytes_cmp, name_cmp, same_name}
use Rattle.mtn_base.specs.declared.name.NodeName.{NodeName}
use Rattle.mtn_marking.specs.Marking.{Marks, AreFor, IsFor, marking_of, marks_of}
use Rattle.mtn_marking.specs.declared.node.Marking.{Marking}
use Rattle.mtn_marking.specs.declared.node.NodeMarks.{NodeMarks}
use Rattle.mtn_marking.proofs.ByName.{name_of}
use Rattle.mtn_marking.proofs.Keyed.{found_there}
use Rattle.mtn_marking.proofs.Telling.{key_in}
use Rattle.mtn_roster.specs.declared.entry.Entry.{Entry}
use Rattle.mtn_roster.specs.Tree.{Tree, IsSane, entry_of}
use Rattle.mtn_base.specs.Lists.{rises}
use Rattle.mtn_roster.proofs.Along.{keyed}
use Rattle.mtn_base.proofs.Orders.{names_total, exact_names}
use Rattle.mtn_base.proofs.Tests.{same_name-is, same_name-self}
use Rattle.mtn_roster_text.specs.Naming.{ids_at, ids_by, ids_in}
use Rattle.mtn_roster_text.specs.RosterText.{marked_stanza}
use Rattle.mtn_roster_text.specs.declared.table.Named.{Named}

-- what was read by a place
pub copied : {X : Type 0} (o : Option (Bor X)) (b : Bor X) (p : Option X) → o ≡ Some b → option_copied o ≡ p → p ≡ Some b.now
copied o b p h g = sym g ∙ ap option_copied h

pub some_copied : {X : Type 0} (o : Option (Bor X)) (x : X) → option_copied o ≡ Some x → IsSome o
some_copied None x h = absurd cc
some_copied (Some b) x h = refl

-- the marking of a node stands at its place
pub marked_there : (t : Tree) (ms : Marks) → AreFor t ms → (k : ℕ) (e : Entry) → slice_get t k ≡ Some e → (m : NodeMarks) × (slice_get ms k ≡ Some m) × IsFor e m
marked_there [] ms are k e at = absurd cc
marked_there (x ∷ t) [] are k e at = absurd are
marked_there (x ∷ t) (m ∷ ms) are zero e at = let same : x ≡ e = cc in (m, refl, subst (λ z. IsFor z m) same are.0)
marked_there (x ∷ t) (m ∷ ms) are (suc k) e at = marked_there t ms are.1 k e at

-- and is found by its name
pub marking_at : (ms : Marks) → rises name_cmp (map name_of ms) ≡ true → (k : ℕ) (m : NodeMarks) → slice_get ms k ≡ Some m → (n : NodeName) → m.name ≡ n → marking_of ms n ≡ Some m.marking
marking_at ms up k m at n same =
    subst (λ z. marking_of ms z ≡ Some m.marking) same
    (let found = found_there name_cmp name_of same_name names_total same_name-is same_name-self exact_names ms up k m at in ap (option_map (λ (m : NodeMarks). m.marking)) found)

-- the keys of a marking ascend
pub keys_rise : (t : Tree) (sane : IsSane t) (e : Entry) (m : NodeMarks) → entry_of t e.name ≡ Some e → IsFor e m → rises bytes_cmp (map key_in m.marking.attrs) ≡ true
keys_rise t sane e m there for_it = ap (rises bytes_cmp) for_it.keys ∙ keyed t sane e there

-- the marking of a node tells its scalars
pub stanza_same : (table : List Named) (ms : Marks) (m : Marking) (path : List ℕ) (e : Entry) → marking_of ms e.name ≡ Some m → marked_stanza (ids_by table m) path e ≡ marked_stanza (ids_in table ms) path e
stanza_same table ms m path e is = ap (λ (o : Option Marking). marked_stanza (λ s. ids_at table (unwrap_or (option_and_then (marks_of s) o) [])) path e) (sym is)

-- what the loop knows of the marking at a stop
pub record AtNode (ms : Marks) (e : Entry) (m : NodeMarks) : Type 0 where
  pub marking : marking_of ms e.name ≡ Some m.marking
  pub keys : rises bytes_cmp (map key_in m.marking.attrs) ≡ true

pub at_node : (t : Tree) (ms : Marks) → IsSane t → AreFor t ms → rises name_cmp (map name_of ms) ≡ true → (k : ℕ) (e : Entry) (m : NodeMarks) → entry_of t e.name ≡ Some e → slice_get t k ≡ Some e → slice_get ms k ≡ Some m → AtNode ms e m
at_node t ms sane are up k e m own here at =
    let there = marked_there t ms are k e here in
    let same : there.0 ≡ m = (let both = sym there.1 ∙ at in cc) in
    let for_it : IsFor e m = subst (IsFor e) same there.2 in
    record { marking = marking_at ms up k m at e.name for_it.name; keys = keys_rise t sane e m own for_it }
