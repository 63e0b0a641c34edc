-- The tree of the edges, or damage where no history has it.
use Rattle.std.proofs.Common.{rules, ◌≡◌, ◌∙◌, ℕ, List, [], None, Ok, sym, ap, subst, inl, inr, arith}
use Rattle.std.proofs.lemmas.Bool.{cases_lt}
use Rattle.std.proofs.lemmas.Result.{err_from_is_err_and}
use Rattle.std.specs.Prelude.{IfSome, IsTrue, slice_get}
use Rattle.mtn_entry_laws.proofs.LawfulEntries.{all_spell}
use Rattle.mtn_roster_deltas.specs.Numbering.{shown}
use Rattle.mtn_model.specs.State.{State}
use Rattle.mtn_ports.specs.Kept.{with_all}
use Rattle.mtn_ports.proofs.KeptLemmas.{stays_trans}
use Rattle.mtn_make_roster.specs.Basis.{Underlies}
use Rattle.mtn_history.specs.Stands.{IsFounded}
use Rattle.mtn_history.specs.declared.pending.Pending.{Pending}
use Rattle.mtn_history.proofs.Founding.{back, counted}
use Rattle.mtn_history.proofs.Knowing.{told_back}
use Rattle.mtn_put_revision.specs.Keeping.{Accepts, AreParents, IsFirstRebuilt, IsNew}
use Rattle.mtn_put_revision.specs.Finding.{IsFound, IsUnfounded, made_refusal_of}
use Rattle.mtn_put_revision.specs.Writing.{AllAscend}
use Rattle.mtn_history.specs.Errors.{IfDamage}
use Rattle.mtn_replay.specs.Making.{made_tree}
use Rattle.mtn_put_revision.proofs.NextTrees.{no_first, none_ascend, nothing_lawful}
use Rattle.mtn_put_revision.proofs.Grounds.{moved}
use Rattle.mtn_put_revision.proofs.Putting.{known_ascend}
use Rattle.mtn_put_revision.proofs.Counting.{as_pending}
use Rattle.mtn_put_revision.proofs.over.over_edges.Goals as goal

pub tree_of-requires-clause-based : goal.tree_of-requires-clause-based
tree_of-requires-clause-based g c κs within = λ f s d. (c.requires.based f s d).0

pub over_tree-requires-clause-based : goal.over_tree-requires-clause-based
over_tree-requires-clause-based g c =
    let mid = g.K.Keeper.contents c.tree_of.new.draft.keeper.now in
    let p = c.args.draft.now.pending in
    let known = c.args.known.now in
    moved (λ (x : Pending). (f : List ℕ → List ℕ) (s : State) → (d : IsFounded f mid x s) →
    Underlies d.stands.history c.args.fresh.now.read.now.edges c.args.basis.now c.args.fresh.now.id × AreParents d.stands.history d.stands.kept c.args.fresh.now.read.now.edges known.places.now (shown known.entries.now) known.depth) p c.tree_of.new.draft.pending (sym c.tree_of.ensures.pending)
    (λ f s d. c.requires.based f s (back f (g.K.Keeper.contents c.args.draft.now.keeper.now) mid p s c.tree_of.ensures.stays.same d))

pub over_tree-requires-clause-first : goal.over_tree-requires-clause-first
over_tree-requires-clause-first g c =
    let mid = g.K.Keeper.contents c.tree_of.new.draft.keeper.now in
    let known = c.args.known.now in
    let p = c.args.draft.now.pending in
    moved (λ (x : Pending). IfSome mid (λ y. IsFirstRebuilt (with_all y x.batch) known.places.now (shown known.entries.now) known.depth)) p c.tree_of.new.draft.pending (sym c.tree_of.ensures.pending)
    (told_back (g.K.Keeper.contents c.args.draft.now.keeper.now) mid (λ y. IsFirstRebuilt (with_all y p.batch) known.places.now (shown known.entries.now) known.depth) c.tree_of.ensures.stays.same c.requires.first)

pub returns-in_err-made-clause-refused : goal.returns-in_err-made-clause-refused
returns-in_err-made-clause-refused g c = λ s d. let p = err_from_is_err_and c.from_residual.result c.from_residual.ensures.1 in rw (p.1, p.2) (c.in_err-made.ensures.refused s d)

pub returns-in_err-kept-clause-stays : goal.returns-in_err-kept-clause-stays
returns-in_err-kept-clause-stays g c = stays_trans g.K.Keeper.contents g.K.Keeper.leaves g.K.Keeper.faults _ _ _ c.tree_of.ensures.stays c.over_tree.ensures.stays

pub returns-then-kept-clause-stays : goal.returns-then-kept-clause-stays
returns-then-kept-clause-stays g c = stays_trans g.K.Keeper.contents g.K.Keeper.leaves g.K.Keeper.faults _ _ _ c.tree_of.ensures.stays c.over_tree.ensures.stays

pub returns-then-kept-clause-accepts : goal.returns-then-kept-clause-accepts
returns-then-kept-clause-accepts g c = λ s d new.
    let f = g.I.Ident.meaning c.args.ident.now in
    let p = c.args.draft.now.pending in
    let last = g.K.Keeper.contents c.over_tree.new.draft.keeper.now in
    let mid = g.K.Keeper.contents c.tree_of.new.draft.keeper.now in
    let d1 = back f mid last p s c.over_tree.ensures.stays.same d in
    let edges = c.args.fresh.now.read.now.edges in
    let id = c.args.fresh.now.id in
    moved (λ (q : Pending). (s : State) → (d : IsFounded f last q s) → IsNew f d.stands.history c.args.fresh.now → made_refusal_of f s.files d.stands.history id c.args.fresh.now.read.now ≡ None → c.in_ok-made.made.tree ≡ made_tree d.stands.history id edges →
    IsTrue c.in_ok-kept.kept → Accepts f d.records s d.stands.history c.args.fresh.now c.over_tree.new.draft.pending) c.tree_of.new.draft.pending p c.tree_of.ensures.pending (c.in_ok-kept.ensures.accepts f) s d new (c.in_ok-made.ensures.fine s d1) (c.in_ok-made.ensures.tree f s d1) c.if-kept.true

pub unfit-requires-clause-logged : goal.unfit-requires-clause-logged
unfit-requires-clause-logged g c = λ none.
    let p = c.args.draft.now.pending in
    let known = c.args.known.now in
    let first : slice_get c.args.known.now.places.now 0 ≡ None = search rules in
    let no_place = no_first c.args.known.now.places.now first in
    let under = c.requires.root no_place in
    let made = c.in_ok-made.ensures.made [] under in
    elim (cases_lt 0 c.over_tree.new.draft.pending.count) [
      | inl lt ↦ lt
      | inr ge ↦ absurd (c.in_ok-kept.ensures.none (ap Ok c.if-kept.false) (subst AllAscend (sym (c.requires.unknown no_place)) none_ascend) [] nothing_lawful under made.1 made.0
          (let q = c.in_ok-kept.ensures.unkept (ap Ok c.if-kept.false) in let n = ap (λ (x : Pending). x.count) q in omega (arith, ge, n)))
    ]

pub returns-clause-stays : goal.returns-clause-stays
returns-clause-stays g c = stays_trans g.K.Keeper.contents g.K.Keeper.leaves g.K.Keeper.faults _ _ _ (stays_trans g.K.Keeper.contents g.K.Keeper.leaves g.K.Keeper.faults _ _ _ c.tree_of.ensures.stays c.over_tree.ensures.stays) c.unfit.ensures.stays

pub returns-clause-damaged : goal.returns-clause-damaged
returns-clause-damaged g c =
    let last = g.K.Keeper.contents c.unfit.new.draft.keeper.now in
    let after = g.K.Keeper.contents c.over_tree.new.draft.keeper.now in
    let mid = g.K.Keeper.contents c.tree_of.new.draft.keeper.now in
    let p = c.args.draft.now.pending in
    let q = c.tree_of.new.draft.pending in
    let r = c.over_tree.new.draft.pending in
    let unkept = ap Ok c.if-kept.false in
    let same = c.in_ok-kept.ensures.unkept unkept ∙ c.tree_of.ensures.pending in
    let known = c.args.known.now in
    moved (λ (x : Pending). IfSome last (λ y. IfDamage c.unfit.result (IsFound last x (with_all y x.batch)))) r p same
    (c.unfit.ensures.damaged (moved (λ (x : Pending). IsUnfounded after x) p r (sym same) (λ f s d.
    let d1 = back f mid after p s c.over_tree.ensures.stays.same d in
    let based = c.requires.based f s (back f (g.K.Keeper.contents c.args.draft.now.keeper.now) mid p s c.tree_of.ensures.stays.same d1) in
    let made = c.in_ok-made.ensures.made d.stands.history based.0 in
    let count = sym (counted f after p s d) ∙ ap (λ (x : Pending). x.count) (sym c.tree_of.ensures.pending) in
    c.in_ok-kept.ensures.none unkept (known_ascend d.stands.history d.stands.kept d.stands.revisions known.places.now (shown known.entries.now) based.1.kept)
    d.stands.history (all_spell f s.files s.log d.stands.history d.stands.spelled) based.0 made.1 made.0 count)))

pub returns-in_err-kept-clause-reads : goal.returns-in_err-kept-clause-reads
returns-in_err-kept-clause-reads g c = λ f s d ids.
    let last = g.K.Keeper.contents c.over_tree.new.draft.keeper.now in
    let p = c.args.draft.now.pending in
    let first = c.in_ok-made.ensures.few f s (back f (g.K.Keeper.contents c.tree_of.new.draft.keeper.now) last p s c.over_tree.ensures.stays.same d) ids in
    let then = c.over_tree.ensures.reads f s (as_pending f last p c.tree_of.new.draft.pending s c.tree_of.ensures.pending d) in
    omega (arith, first, then)

pub returns-then-kept-clause-reads : goal.returns-then-kept-clause-reads
returns-then-kept-clause-reads g c = λ f s d ids.
    let last = g.K.Keeper.contents c.over_tree.new.draft.keeper.now in
    let p = c.args.draft.now.pending in
    let first = c.in_ok-made.ensures.few f s (back f (g.K.Keeper.contents c.tree_of.new.draft.keeper.now) last p s c.over_tree.ensures.stays.same d) ids in
    let then = c.over_tree.ensures.reads f s (as_pending f last p c.tree_of.new.draft.pending s c.tree_of.ensures.pending d) in
    omega (arith, first, then)

pub returns-clause-reads : goal.returns-clause-reads
returns-clause-reads g c = λ f s at ids.
    let after = g.K.Keeper.contents c.over_tree.new.draft.keeper.now in
    let mid = g.K.Keeper.contents c.tree_of.new.draft.keeper.now in
    let p = c.args.draft.now.pending in
    let unkept = ap Ok c.if-kept.false in
    let known = c.args.known.now in
    let d = back f after (g.K.Keeper.contents c.unfit.new.draft.keeper.now) p s c.unfit.ensures.stays.same at in
    let d1 = back f mid after p s c.over_tree.ensures.stays.same d in
    let based = c.requires.based f s (back f (g.K.Keeper.contents c.args.draft.now.keeper.now) mid p s c.tree_of.ensures.stays.same d1) in
    let made = c.in_ok-made.ensures.made d.stands.history based.0 in
    let count = sym (counted f after p s d) ∙ ap (λ (x : Pending). x.count) (sym c.tree_of.ensures.pending) in
    absurd (c.in_ok-kept.ensures.none unkept (known_ascend d.stands.history d.stands.kept d.stands.revisions known.places.now (shown known.entries.now) based.1.kept)
    d.stands.history (all_spell f s.files s.log d.stands.history d.stands.spelled) based.0 made.1 made.0 count)
