-- The tree with its marks and its records.
use Rattle.std.proofs.Common.{◌∙◌, Bool, sym, arith}
use Rattle.std.specs.Prelude.{IsTrue}
use Rattle.mtn_replay.specs.Making.{made}
use Rattle.mtn_make_roster.proofs.Told.{ok_then}
use Rattle.mtn_history.specs.Stands.{IsDraft}
use Rattle.mtn_history.proofs.Founding.{back, counted}
use Rattle.mtn_put_revision.specs.Keeping.{Accepts, IsMade, with_text}
use Rattle.mtn_put_revision.proofs.NextTrees.{next_tree, too_many_made}
use Rattle.mtn_put_revision.proofs.Refusing.{made_back, next_of_new}
use Rattle.mtn_put_revision.proofs.over.over_tree.Goals as goal

pub keep-requires-clause-parents : goal.keep-requires-clause-parents
keep-requires-clause-parents g c = λ f s d. (c.requires.based f s d).1.kept

pub returns-then-len-clause-none : goal.returns-then-len-clause-none
returns-then-len-clause-none g c = λ same asc h spell under fine is count. too_many_made h c.args.fresh.now.read.now.edges c.args.fresh.now.id c.args.made.tree fine is (omega (arith, c.if-len.true, c.len.ensures.count))

pub returns-clause-none : goal.returns-clause-none
returns-clause-none g c = λ same asc h spell under fine is count.
    let edges = c.args.fresh.now.read.now.edges in
    let id = c.args.fresh.now.id in
    let basis = c.args.basis.now in
    let tree = c.in_ok-marked.ensures.tree ∙ is in
    let marked = c.in_ok-marked.ensures.marks h edges id under c.requires.edges fine is (c.count.ensures ∙ sym count) in
    c.keep.ensures.none same asc h (made h id edges) (next_tree h edges id fine basis c.in_ok-marked.marked under c.requires.edges c.requires.bounded spell tree marked) count

pub returns-clause-accepts : goal.returns-clause-accepts
returns-clause-accepts g c = λ f s d new fine tree.
    let p = c.args.draft.now.pending in
    let edges = c.args.fresh.now.read.now.edges in
    let id = c.args.fresh.now.id in
    let last = g.K.Keeper.contents c.keep.new.draft.keeper.now in
    let d0 = back f (g.K.Keeper.contents c.args.draft.now.keeper.now) last p s c.keep.ensures.stays.same d in
    let based = c.requires.based f s d0 in
    let marked = c.in_ok-marked.ensures.marks d.stands.history edges id based.0 c.requires.edges (made_back f s.files d.stands.history id c.args.fresh.now.read.now fine) tree (c.count.ensures ∙ counted f last p s d) in
    let made_is : IsMade d.stands.history edges id c.in_ok-marked.marked = record { tree = c.in_ok-marked.ensures.tree ∙ tree; marked = marked } in
    ok_then c.keep.result
    (λ (kept : Bool). IsTrue kept → IsDraft f d.records c.keep.new.draft.pending (with_text s (record { id = id.0; text = c.args.fresh.now.text.now })))
    (λ (kept : Bool). IsTrue kept → Accepts f d.records s d.stands.history c.args.fresh.now c.keep.new.draft.pending)
    (λ kept told is. record { fine = fine; draft = told is })
    (c.keep.ensures.kept f s d edges made_is based.1 (next_of_new f s.files d.stands.history c.args.fresh.now new fine))
