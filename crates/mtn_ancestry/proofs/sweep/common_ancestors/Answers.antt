use Rattle.std.proofs.Common.{◌≡◌, ◌↔◌, ℕ, ◌+◌, ◌<◌, length, drop, get_or, sym, subst, arith}
use Rattle.std.proofs.lemmas.List.Elements.{Contains-get_or}
use Rattle.mtn_ancestry.specs.Ancestors.{IsAncestor}
use Rattle.mtn_ancestry.specs.Log.{parents_of}
use Rattle.mtn_ancestry.specs.Sets.{IsFlagged, IsFlaggedIn}
use Rattle.mtn_ancestry.proofs.Ancestry.{IsAncestor-le}
use Rattle.mtn_ancestry.proofs.Flagging.{whole}
use Rattle.mtn_ancestry.proofs.Joining.{more_common}
use Rattle.mtn_ancestry.proofs.Members.{Contains-at}
use Rattle.mtn_ancestry.proofs.sweep.common_ancestors.Goals as goal

pub loop-from-preserved : goal.loop-from-preserved
loop-from-preserved c =
    let of = c.args.of.now in
    let from : ℕ = c.loop-from.from in
    let sets : ℕ = c.min-sets.result in
    let parents = parents_of c.args.log.now in
    let old = c.loop-from.common in
    let flags = c.keep_full.new.flags in
    let words = c.in_ok-words.words.items in
    let n : old.len ≡ length flags = omega arith in
    record {
      within = omega arith;
      count = c.loop-from.invariant.count;
      exact = subst (λ w. (x : ℕ) → IsFlagged w x ↔ ((x < length c.args.log.now) × ((k : ℕ) → k < from + sets → IsAncestor parents x (get_or of k 0))))
          (sym (whole old.len flags (drop (length flags) old.items) n))
          (λ x.
          let kept = subst (λ w. IsFlagged flags x ↔ (IsFlagged w x × ((j : ℕ) → j < sets → IsFlaggedIn c.deref.result.now j x))) c.deref_mut.ensures.value (c.keep_full.ensures.exact x) in
          more_common (IsAncestor parents x) (λ j. IsFlaggedIn words j x) (x < length c.args.log.now) (IsFlagged old.items x) (IsFlagged flags x) of from sets (omega arith)
          (c.loop-from.invariant.exact x) (λ j. c.in_ok-words.ensures.exact j x)
          (subst (λ w. IsFlagged flags x ↔ (IsFlagged old.items x × ((j : ℕ) → j < sets → IsFlaggedIn w j x))) c.deref.ensures.value kept));
    }

pub returns-clause-exact : goal.returns-clause-exact
returns-clause-exact c = λ x.
    let of = c.args.of.now in (
      λ f r m. Contains-at of r (IsAncestor (parents_of c.args.log.now) x) (λ k h. ((c.loop-from.invariant.exact x).0 f).1 k (omega arith)) m,
      λ all.
          let each = λ (k : ℕ) (h : k < length of). all (get_or of k 0) (Contains-get_or of k 0 h) in
          let first : get_or of 0 0 < length c.args.log.now = c.requires.within 0 0 c.requires.some in
          (c.loop-from.invariant.exact x).1 (omega (arith, first, IsAncestor-le c.requires.earlier (each 0 c.requires.some)), λ k h. each k (omega arith)),
    )
