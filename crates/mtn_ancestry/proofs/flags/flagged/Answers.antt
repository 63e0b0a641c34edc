use Rattle.std.proofs.Common.{◌≡◌, ℕ, Vec, Global, ap, ◌+◌, ◌∷◌, ◌++◌, [], sym, ◌∙◌, subst}
use Rattle.std.proofs.lemmas.Bool.{false≢true}
use Rattle.mtn_ancestry.specs.Sets.{IsFlagged}
use Rattle.mtn_ancestry.proofs.Listing.{IsListedBelow, listed_skip, listed_push}
use Rattle.mtn_ancestry.proofs.flags.flagged.Goals as goal
use Rattle.mtn_ancestry.proofs.flags.flagged.Goals.{then-is_set+in_ok-push, else-is_set}

pub loop-at-preserved : goal.loop-at-preserved
loop-at-preserved c =
    elim c.if-is_set.branch [
      | then-is_set+in_ok-push w ↦
          let is : IsFlagged c.args.flags.now c.loop-at.at = w.if-is_set.true in
          let p = w.in_ok-push.ensures.items in
          let o = w.out-is in
          let e : c.if-is_set.out.items ≡ c.loop-at.out.items ++ c.loop-at.at ∷ [] = ap (λ (v : Vec ℕ Global). v.items) o ∙ p in
          subst (IsListedBelow c.args.flags.now (c.loop-at.at + 1)) (sym e) (listed_push c.args.flags.now c.loop-at.at c.loop-at.out.items c.loop-at.invariant is)
      | else-is_set w ↦
          let not : ¬ IsFlagged c.args.flags.now c.loop-at.at = λ f. false≢true (sym w.if-is_set.false ∙ f) in
          let e : c.if-is_set.out.items ≡ c.loop-at.out.items = ap (λ (v : Vec ℕ Global). v.items) w.out-is in
          subst (IsListedBelow c.args.flags.now (c.loop-at.at + 1)) (sym e) (listed_skip c.args.flags.now c.loop-at.at c.loop-at.out.items c.loop-at.invariant not)
    ]
