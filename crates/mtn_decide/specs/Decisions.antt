-- What is decided of the live nodes, and the pending ones: two lists by ascending names.
use Rattle.std.specs.Prelude.{◌≡◌, ℕ, Bool, true, false, IsTrue, IsSome, List, Option, None, find, map, option_map, not, ◌&&◌}
use Rattle.std.specs.List.{list_all}
use Rattle.mtn_base.specs.Names.{same_bytes, same_name, bytes_cmp, name_cmp}
use Rattle.mtn_base.specs.declared.name.NodeName.{NodeName}
use Rattle.mtn_roster.specs.Attrs.{are_keyed}
use Rattle.mtn_roster.specs.Tree.{is_dir}
use Rattle.mtn_base.specs.Lists.{rises}
use Rattle.mtn_decide.specs.declared.decision.AttrChoice.{AttrChoice}
use Rattle.mtn_decide.specs.declared.decision.AttrDecision.{AttrDecision}
use Rattle.mtn_decide.specs.declared.decision.ContentChoice.{ContentChoice}
use Rattle.mtn_decide.specs.declared.decision.ContentChoice.TheVariants.{Absent, Fixed, Clash}
use Rattle.mtn_decide.specs.declared.decision.Decision.{Decision}
use Rattle.mtn_decide.specs.declared.decision.Pending.{Pending}

-- the decisions of a merge
pub record Merge : Type 0 where
  pub nodes : List Decision
  pub pending : List Pending

-- what is decided of a node; none where it does not live
abbrev pub decision_of : List Decision → NodeName → Option Decision
decision_of ds n = find (λ d. same_name d.name n) ds

-- the pending file of a name
abbrev pub pending_of : List Pending → NodeName → Option Pending
pending_of ps n = find (λ p. same_name p.entry.name n) ps

-- what is decided of the attribute of a key
abbrev pub choice_of : List AttrDecision → List ℕ → Option AttrChoice
choice_of attrs key = option_map (λ a. a.choice) (find (λ a. same_bytes a.key key) attrs)

abbrev pub is_absent : ContentChoice → Bool
is_absent Absent = true
is_absent (Fixed c) = false
is_absent (Clash l r) = false

-- the keys of the node's attributes ascend
abbrev pub has_keys_in_order : Decision → Bool
has_keys_in_order d = rises bytes_cmp (map (λ (a : AttrDecision). a.key) d.attrs)

-- a file whose keys ascend
abbrev pub is_file_in_order : Pending → Bool
is_file_in_order p = not (is_dir p.entry) && are_keyed p.entry.attrs

-- Names ascend, and the keys of each node; exactly directories have no content; what is pending is a file, and does not live
pub record IsInOrder (m : Merge) : Type 0 where
  pub names : IsTrue (rises name_cmp (map (λ (d : Decision). d.name) m.nodes))
  pub keys : IsTrue (list_all has_keys_in_order m.nodes)
  pub kinds : map (λ (d : Decision). is_absent d.content) m.nodes ≡ map (λ (d : Decision). d.is_dir) m.nodes
  pub pending_names : IsTrue (rises name_cmp (map (λ (p : Pending). p.entry.name) m.pending))
  pub files : IsTrue (list_all is_file_in_order m.pending)
  pub apart : (n : NodeName) → IsSome (decision_of m.nodes n) → pending_of m.pending n ≡ None
