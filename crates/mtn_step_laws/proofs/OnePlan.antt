-- A merge comes to one thing.
use Rattle.std.proofs.Common.{◌≡◌, ◌≢◌, ◌⊎◌, ◌≤◌, ◌<◌, ℕ, Bool, true, false, List, length, Option, Some, None, Result, Ok, Err, inl, inr, refl, sym, ap, ◌∙◌, subst, arith}
use Rattle.std.proofs.lemmas.Option.{same_Some}
use Rattle.mtn_base.specs.Hex.{id_of}
use Rattle.mtn_base.specs.declared.id.Id.{Id}
use Rattle.mtn_base.specs.declared.refusal.Cause.{Cause}
use Rattle.mtn_basic_io.specs.Spelling.{spelling}
use Rattle.mtn_changes.specs.RevisionText.{revision_stanzas}
use Rattle.mtn_changeset_laws.specs.Changes.{or_else}
use Rattle.mtn_changeset_laws.specs.Laws.{NoneBornIn}
use Rattle.mtn_conflicts.specs.declared.lists.Conflicts.{Conflicts}
use Rattle.mtn_conflicts.specs.Lists.{AreConflictsOf, IsNone}
use Rattle.mtn_conflicts.specs.Result.{result_of}
use Rattle.mtn_decide.specs.Decisions.{Merge}
use Rattle.mtn_decide.specs.Graph.{IsMergeOf}
use Rattle.mtn_history_laws.specs.History.{Revision, tree_at}
use Rattle.mtn_manifest.specs.Manifest.{manifest_of}
use Rattle.mtn_merging.specs.MergeEdges.{merge_edges}
use Rattle.mtn_merging.proofs.Accepted.{tree_is}
use Rattle.mtn_model.specs.State.{Logged}
use Rattle.mtn_model.specs.Table.{Table}
use Rattle.mtn_replay.specs.Lawful.{IsHistory}
use Rattle.mtn_replay.specs.Making.{too_many, too_long}
use Rattle.mtn_resolve.specs.declared.error.OverrideError.{OverrideError}
use Rattle.mtn_resolve.specs.declared.error.OverrideError.TheVariants as one
use Rattle.mtn_resolve.specs.declared.error.ResolveTextError.{ResolveTextError}
use Rattle.mtn_resolve.specs.declared.error.ResolveTextError.TheVariants as text
use Rattle.mtn_resolve.specs.declared.resolution.Resolution.{Resolution}
use Rattle.mtn_resolve.specs.Faults.{AreFitting}
use Rattle.mtn_resolve.specs.Overriding.{overridden}
use Rattle.mtn_roster.specs.Tree.{Tree}
use Rattle.mtn_plans.specs.Given.{IsChecked, IsGiven, IsRead, override_cause, text_cause}
use Rattle.mtn_plans.specs.Plans.{Plan, IsUnborn, Ends, EndsUnless, IsConflicted, IsMade, LooksAtSides, Looks, Merges, PlansGiven, PlansPayload, PlansSides, Unless, limit_refusal, merge_text, merged_or, text_refusal}
use Rattle.mtn_plans.specs.Sides.{IsMergeAt, left_of, right_of, side_refusal}
use Rattle.mtn_plans.specs.declared.outcome.MergeOutcome.TheVariants.{Conflicted}
use Rattle.mtn_merge_laws.proofs.OneMerge.{one_merge}
use Rattle.mtn_merge_laws.proofs.OneConflicts.{one_conflicts}
use Rattle.mtn_merge_laws.proofs.OneReading.{one_text, no_fault_of, one_fault}
use Rattle.mtn_merge_laws.proofs.OneOverride.{no_fault, one_fault as one_unfit}
use Rattle.mtn_merged_trees.proofs.Again.{edges_again, long_again, manifest_again, many_again}

-- ---- what is given

some_text : (e : ResolveTextError) (c : Cause) → text_cause e ≡ Some c → e ≢ text.NoMemory
some_text e c named is = let z : text_cause text.NoMemory ≡ Some c = ap text_cause (sym is) ∙ named in cc

some_unfit : (e : OverrideError) (c : Cause) → override_cause e ≡ Some c → e ≢ one.NoMemory
some_unfit e c named is = let z : override_cause one.NoMemory ≡ Some c = ap override_cause (sym is) ∙ named in cc

one_of_option : (o : Option Cause) (c d : Cause) → o ≡ Some c → o ≡ Some d → c ≡ d
one_of_option o c d x y = same_Some c d (sym x ∙ y)

abbrev Given : Type 0
Given = Result (List Resolution) Cause

long_short : (n : ℕ) → 67108864 < n → n ≤ 67108864 → ⊥
long_short n a b = omega (arith, a, b)

one_read : (payload : List ℕ) (a b : Given) → IsRead payload a → IsRead payload b → a ≡ b
one_read payload (Ok rs) (Ok ss) f g = ap (λ (l : List Resolution). Ok l) (one_text payload rs ss f.1.reads g.1.reads f.1.stanzas g.1.stanzas)
one_read payload (Ok rs) (Err c) f (inl g) = absurd (long_short (length payload) g.0 f.0)
one_read payload (Ok rs) (Err c) f (inr g) = absurd (some_text g.1.fault c g.1.named (no_fault_of payload rs g.1.fault f.1.stanzas f.1.reads g.1.faulty))
one_read payload (Err c) (Ok rs) (inl f) g = absurd (long_short (length payload) f.0 g.0)
one_read payload (Err c) (Ok rs) (inr f) g = absurd (some_text f.1.fault c f.1.named (no_fault_of payload rs f.1.fault g.1.stanzas g.1.reads f.1.faulty))
one_read payload (Err c) (Err d) (inl f) (inl g) = ap (λ (x : Cause). Err x) (f.1 ∙ sym g.1)
one_read payload (Err c) (Err d) (inl f) (inr g) = absurd (long_short (length payload) f.0 g.0)
one_read payload (Err c) (Err d) (inr f) (inl g) = absurd (long_short (length payload) g.0 f.0)
one_read payload (Err c) (Err d) (inr f) (inr g) =
    let same = one_fault payload f.1.fault g.1.fault (some_text f.1.fault c f.1.named) (some_text g.1.fault d g.1.named) f.1.faulty g.1.faulty in
    ap (λ (x : Cause). Err x) (one_of_option (text_cause g.1.fault) c d (ap text_cause (sym same) ∙ f.1.named) g.1.named)

pub one_given : (resolves : Bool) (payload : List ℕ) (a b : Given) → IsGiven resolves payload a → IsGiven resolves payload b → a ≡ b
one_given false payload a b f g = f ∙ sym g
one_given true payload a b f g = one_read payload a b f g

-- ---- whether it is refused

one_checked : (files : Table) (m : Merge) (c : Conflicts) (rs : List Resolution) (a b : Option Cause) → IsChecked files m c rs a → IsChecked files m c rs b → a ≡ b
one_checked files m c rs None None f g = refl
one_checked files m c rs None (Some x) f (inl g) = absurd (some_unfit g.fault x g.named (no_fault m c rs g.fault f.0 g.unfit))
one_checked files m c rs None (Some x) f (inr g) = sym f.1 ∙ g.1
one_checked files m c rs (Some x) None (inl f) g = absurd (some_unfit f.fault x f.named (no_fault m c rs f.fault g.0 f.unfit))
one_checked files m c rs (Some x) None (inr f) g = sym f.1 ∙ g.1
one_checked files m c rs (Some x) (Some y) (inl f) (inl g) =
    let same = one_unfit m c rs f.fault g.fault (some_unfit f.fault x f.named) (some_unfit g.fault y g.named) f.unfit g.unfit in
    ap Some (one_of_option (override_cause g.fault) x y (ap override_cause (sym same) ∙ f.named) g.named)
one_checked files m c rs (Some x) (Some y) (inl f) (inr g) = absurd (some_unfit f.fault x f.named (no_fault m c rs f.fault g.0 f.unfit))
one_checked files m c rs (Some x) (Some y) (inr f) (inl g) = absurd (some_unfit g.fault y g.named (no_fault m c rs g.fault f.0 g.unfit))
one_checked files m c rs (Some x) (Some y) (inr f) (inr g) = sym f.1 ∙ g.1

-- ---- over one history

module _ (f : List ℕ → List ℕ) (files : Table) (log : List Logged) (h : List Revision) (is : IsHistory f files log h) (l r : Id) where
  one_at : (m n : Merge) → IsMergeAt h l r m → IsMergeAt h l r n → m ≡ n
  one_at m n a b =
      let left : b.left ≡ a.left = same_Some b.left a.left (sym b.at_left ∙ a.at_left) in
      let right : b.right ≡ a.right = same_Some b.right a.right (sym b.at_right ∙ a.at_right) in
      one_merge m n a.order b.order a.decides (subst (λ p. IsMergeOf h p a.right n) left (subst (λ q. IsMergeOf h b.left q n) right b.decides))

  -- the trees for two ids have one text, and one refusal for limits
  module _ (m : Merge) (at : IsMergeAt h l r m) (c : Conflicts) (rs : List Resolution) (fit : AreFitting m c rs) (d : Conflicts) (are : AreConflictsOf (overridden rs m) d) (none : IsNone d)
      (x y : Id) (ux : IsUnborn h l r x) (uy : IsUnborn h l r y) where
    left_of_tree : (z : Id) → IsUnborn h l r z → NoneBornIn (tree_at h at.left) z
    left_of_tree z u = subst (λ t. NoneBornIn t z) (tree_is f files log h is l at.left at.at_left) u.0

    right_of_tree : (z : Id) → IsUnborn h l r z → NoneBornIn (tree_at h at.right) z
    right_of_tree z u = subst (λ t. NoneBornIn t z) (tree_is f files log h is r at.right at.at_right) u.1

    abbrev t : Tree
    t = result_of (overridden rs m) x

    abbrev u : Tree
    u = result_of (overridden rs m) y

    edges : merge_edges h l r t ≡ merge_edges h l r u
    edges = edges_again f files log h is l r at.left at.right at.at_left at.at_right m c d rs at.order at.decides fit are none x y (left_of_tree x ux) (right_of_tree x ux) (left_of_tree y uy) (right_of_tree y uy)

    manifests : manifest_of t ≡ manifest_of u
    manifests = manifest_again f files log h is l r at.left at.right at.at_left at.at_right m c d rs at.order at.decides fit are none x y (left_of_tree x ux) (right_of_tree x ux) (left_of_tree y uy) (right_of_tree y uy)

    many : too_many t ≡ too_many u
    many = many_again f files log h is l r at.left at.right at.at_left at.at_right m c d rs at.order at.decides fit are none x y (left_of_tree x ux) (right_of_tree x ux) (left_of_tree y uy) (right_of_tree y uy)

    long : too_long t ≡ too_long u
    long = long_again f files log h is l r at.left at.right at.at_left at.at_right m c d rs at.order at.decides fit are none x y (left_of_tree x ux) (right_of_tree x ux) (left_of_tree y uy) (right_of_tree y uy)

    texts : merge_text f h l r t ≡ merge_text f h l r u
    texts = λ i. spelling (revision_stanzas (record { manifest = id_of (f (spelling (manifests i))); edges = edges i }))

    pub one_made : merged_or (limit_refusal f h l r t) (merge_text f h l r t) ≡ merged_or (limit_refusal f h l r u) (merge_text f h l r u)
    one_made = λ i. merged_or (or_else (many i) (or_else (long i) (text_refusal (texts i)))) (texts i)

  one_end : (m : Merge) → IsMergeAt h l r m → (c : Conflicts) (rs : List Resolution) → AreFitting m c rs → (v w : Plan) → Ends f h l r (overridden rs m) v → Ends f h l r (overridden rs m) w → v ≡ w
  one_end m at c rs fit v w a b = go (subst (λ (d : Conflicts). IsConflicted f h l r d w ⊎ IsMade f h l r (overridden rs m) d w) (sym same) b.ends) a.ends
    where
      same : a.conflicts ≡ b.conflicts
      same = one_conflicts (overridden rs m) a.conflicts b.conflicts a.are b.are

      go : IsConflicted f h l r a.conflicts w ⊎ IsMade f h l r (overridden rs m) a.conflicts w → IsConflicted f h l r a.conflicts v ⊎ IsMade f h l r (overridden rs m) a.conflicts v → v ≡ w
      go (inl y) (inl x) = x.is ∙ sym y.is
      go (inl y) (inr x) = absurd (y.some x.none)
      go (inr y) (inl x) = absurd (x.some y.none)
      go (inr y) (inr x) =
          x.is ∙ ap (λ (t : Tree). merged_or (limit_refusal f h l r t) (merge_text f h l r t)) x.makes.2
          ∙ one_made m at c rs fit a.conflicts a.are x.none x.makes.0 y.makes.0 x.makes.1 y.makes.1
          ∙ ap (λ (t : Tree). merged_or (limit_refusal f h l r t) (merge_text f h l r t)) (sym y.makes.2) ∙ sym y.is

  fits : (m : Merge) (c : Conflicts) (rs : List Resolution) → IsChecked files m c rs None → AreFitting m c rs
  fits m c rs k = k.0

  one_unless : (m : Merge) → IsMergeAt h l r m → (c : Conflicts) (rs : List Resolution) (o : Option Cause) → IsChecked files m c rs o → (v w : Plan) → EndsUnless f h l r o rs m v → EndsUnless f h l r o rs m w → v ≡ w
  one_unless m at c rs (Some x) k v w a b = a ∙ sym b
  one_unless m at c rs None k v w a b = one_end m at c rs (fits m c rs k) v w a b

  one_of_sides : (rs : List Resolution) (v w : Plan) → PlansSides f h l r files rs v → PlansSides f h l r files rs w → v ≡ w
  one_of_sides rs v w a b =
      let merges : b.merge ≡ a.merge = one_at b.merge a.merge b.decides a.decides in
      let lists : b.conflicts ≡ a.conflicts = one_conflicts a.merge b.conflicts a.conflicts (subst (λ (m : Merge). AreConflictsOf m b.conflicts) merges b.are) a.are in
      let checked : IsChecked files a.merge a.conflicts rs b.refusal = subst (λ (c : Conflicts). IsChecked files a.merge c rs b.refusal) lists (subst (λ (m : Merge). IsChecked files m b.conflicts rs b.refusal) merges b.checked) in
      let refusals : b.refusal ≡ a.refusal = one_checked files a.merge a.conflicts rs b.refusal a.refusal checked a.checked in
      let ends : EndsUnless f h l r a.refusal rs a.merge w = subst (λ (o : Option Cause). EndsUnless f h l r o rs a.merge w) refusals (subst (λ (m : Merge). EndsUnless f h l r b.refusal rs m w) merges b.ends) in
      one_unless a.merge a.decides a.conflicts rs a.refusal a.checked v w a.ends ends

  one_of_given : (given : Given) (v w : Plan) → PlansGiven f h l r files given v → PlansGiven f h l r files given w → v ≡ w
  one_of_given (Err c) v w a b = a ∙ sym b
  one_of_given (Ok rs) v w a b = one_of_sides rs v w a b

  pub one_of_payload : (resolves : Bool) (payload : List ℕ) (v w : Plan) → PlansPayload f h l r files resolves payload v → PlansPayload f h l r files resolves payload w → v ≡ w
  one_of_payload resolves payload v w a b =
      one_of_given a.0 v w a.2 (subst (λ (g : Given). PlansGiven f h l r files g w) (one_given resolves payload b.0 a.0 b.1 a.1) b.2)

  pub one_look : (v w : Plan) → LooksAtSides h l r v → LooksAtSides h l r w → v ≡ w
  one_look v w a b =
      let merges : b.merge ≡ a.merge = one_at b.merge a.merge b.decides a.decides in
      let lists : a.conflicts ≡ b.conflicts = one_conflicts a.merge a.conflicts b.conflicts a.are (subst (λ (m : Merge). AreConflictsOf m b.conflicts) merges b.are) in
      a.is ∙ ap (λ (c : Conflicts). Ok (Conflicted l r c)) lists ∙ sym b.is

module _ (f : List ℕ → List ℕ) (files : Table) (log : List Logged) (h : List Revision) (is : IsHistory f files log h) (a b : Id) where
  pub one_plan : (resolves : Bool) (payload : List ℕ) (v w : Plan) → Merges f files h a b resolves payload v → Merges f files h a b resolves payload w → v ≡ w
  one_plan resolves payload v w = go (side_refusal h a b)
    where
      go : (o : Option Cause) → Unless o (PlansPayload f h (left_of a b) (right_of a b) files resolves payload) v → Unless o (PlansPayload f h (left_of a b) (right_of a b) files resolves payload) w → v ≡ w
      go (Some c) x y = x ∙ sym y
      go None x y = one_of_payload f files log h is (left_of a b) (right_of a b) resolves payload v w x y

  pub one_looked : (v w : Plan) → Looks h a b v → Looks h a b w → v ≡ w
  one_looked v w = go (side_refusal h a b)
    where
      go : (o : Option Cause) → Unless o (LooksAtSides h (left_of a b) (right_of a b)) v → Unless o (LooksAtSides h (left_of a b) (right_of a b)) w → v ≡ w
      go (Some c) x y = x ∙ sym y
      go None x y = one_look f files log h is (left_of a b) (right_of a b) v w x y
