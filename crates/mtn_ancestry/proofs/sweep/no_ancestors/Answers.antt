use Rattle.std.specs.Prelude.{Contains}
use Rattle.std.proofs.Common.{◌≡◌, ◌↔◌, ℕ, length, drop, sym, subst, arith}
use Rattle.mtn_ancestry.specs.Ancestors.{IsProperAncestor}
use Rattle.mtn_ancestry.specs.Log.{parents_of}
use Rattle.mtn_ancestry.specs.Sets.{IsFlagged}
use Rattle.mtn_ancestry.proofs.Flagging.{whole}
use Rattle.mtn_ancestry.proofs.sweep.no_ancestors.Goals as goal

pub returns-clause-exact : goal.returns-clause-exact
returns-clause-exact c =
    let n : c.in_ok-flags.flags.len ≡ length c.flag_rest.new.flags = omega arith in
    subst (λ w. (x : ℕ) → IsFlagged w x ↔ (Contains c.args.of.now x × ((r : ℕ) → Contains c.args.of.now r → ¬ IsProperAncestor (parents_of c.args.log.now) x r)))
    (sym (whole c.in_ok-flags.flags.len c.flag_rest.new.flags (drop (length c.flag_rest.new.flags) c.in_ok-flags.flags.items) n))
    (λ x.
    let rest = c.flag_rest.ensures.exact x in
    let given = subst (λ w. IsFlagged w x ↔ Contains c.args.of.now x) (sym c.deref.ensures.value) (c.in_ok-given.ensures.exact x) in
    let erased = subst (λ w. IsFlagged w x ↔ ((r : ℕ) × Contains c.args.of.now r × IsProperAncestor (parents_of c.args.log.now) x r)) (sym c.deref_mut.ensures.value) (c.in_ok-flags.ensures.exact x) in
    (λ f. let t = rest.0 f in (given.0 t.0, λ r m q. t.1 (erased.1 (r, m, q))), λ u. rest.1 (given.1 u.0, λ f. let t = erased.0 f in u.1 t.0 t.1 t.2)))
