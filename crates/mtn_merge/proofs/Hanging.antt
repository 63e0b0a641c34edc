-- What is decided of two sides, and what resolutions leave of it, hangs on directories.
use Rattle.std.proofs.Common.{◌≡◌, List, [], ℕ, Option, Ok, refl, sym, subst}
use Rattle.mtn_base.specs.declared.id.Id.{Id}
use Rattle.mtn_conflicts.specs.Result.{ParentsAreDirs}
use Rattle.mtn_conflicts.specs.declared.lists.Conflicts.{Conflicts}
use Rattle.mtn_decide.specs.Decisions.{Merge}
use Rattle.mtn_history.proofs.Founding.{back, grown}
use Rattle.mtn_history.specs.Stands.{IsFounded}
use Rattle.mtn_history.specs.declared.pending.Pending.{Pending}
use Rattle.mtn_history_laws.specs.History.{Revision, IsGrown}
use Rattle.mtn_model.specs.State.{State}
use Rattle.mtn_model.specs.Table.{Contents, Table}
use Rattle.mtn_plans.specs.Sides.{IsMergeAt, left_of, right_of}
use Rattle.mtn_ports.specs.Kept.{Same}
use Rattle.mtn_resolve.specs.declared.resolution.Resolution.{Resolution}
use Rattle.mtn_resolve.proofs.Candidates as candidate
use Rattle.mtn_resolve.proofs.Staying as staying
use Rattle.mtn_merge.specs.Given.{Overrides, OverridesAll}
use Rattle.mtn_merge.specs.Sides.{FindsSides}
use Rattle.mtn_merge.specs.declared.sides.Compared.{Compared}
use Rattle.mtn_merge.proofs.None.{not_overridden}

pub dirs_after : (files : Table) (h : List Revision) → IsGrown h → (l r : Id) (m : Merge) → IsMergeAt h l r m → (c : Conflicts) (rs : List Resolution) (n : Merge) → Overrides files m c rs (Ok n) → ParentsAreDirs n.nodes
dirs_after files h grown l r m at c rs n over =
    subst (λ (k : Merge). ParentsAreDirs k.nodes) (sym over.1) (staying.parents_are_dirs m c rs over.0.0 (candidate.candidates_are_dirs h grown at.left at.right m at.order at.decides))

pub dirs_before : (files : Table) (h : List Revision) → IsGrown h → (l r : Id) (m : Merge) → IsMergeAt h l r m → (c : Conflicts) → ParentsAreDirs m.nodes
dirs_before files h grown l r m at c =
    dirs_after files h grown l r m at c [] m ((tt, refl), sym (not_overridden m at.order))

-- over a draft: what was found of two sides, and what resolutions leave of it
abbrev pub Finds : Option Contents → Pending → Id → Id → Compared → Type 0
Finds told p a b x = (f : List ℕ → List ℕ) (s : State) (d : IsFounded f told p s) → FindsSides d.stands.history a b (Ok x)

abbrev pub Settles : Option Contents → Pending → Compared → List Resolution → Compared → Type 0
Settles told p x rs y = (f : List ℕ → List ℕ) (s : State) → IsFounded f told p s → OverridesAll s.files x.decisions x.conflicts rs (Ok y)

abbrev pub Hangs : Option Contents → Pending → Compared → Type 0
Hangs told p x = (f : List ℕ → List ℕ) (s : State) (d : IsFounded f told p s) → ParentsAreDirs x.decisions.nodes

pub found_dirs : (told : Option Contents) (p q : Pending) (a b : Id) (x : Compared) → q ≡ p → Finds told p a b x → Hangs told q x
found_dirs told p q a b x same finds = subst (λ (y : Pending). Hangs told y x) (sym same)
    (λ f s d. dirs_before s.files d.stands.history (grown f told p s d) (left_of a b) (right_of a b) x.decisions (finds f s d).1.merge x.conflicts)

pub settled_dirs : (old new : Option Contents) (p q z : Pending) (a b : Id) (x y : Compared) (rs : List Resolution) → q ≡ p → z ≡ q → Same old new → Finds old p a b x → Settles new q x rs y → Hangs new z y
settled_dirs old new p q z a b x y rs same still kept finds settles = subst (λ (w : Pending). Hangs new w y) (sym still)
    (subst (λ (w : Pending). Settles new w x rs y → Hangs new w y) (sym same) (λ over f s d. dirs_after s.files d.stands.history (grown f new p s d) (left_of a b) (right_of a b) x.decisions (finds f s (back f old new p s kept d)).1.merge x.conflicts rs y.decisions (over f s d)) settles)
