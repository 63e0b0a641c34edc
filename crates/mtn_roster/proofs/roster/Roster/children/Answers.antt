-- The names of the entries of a run.
use Rattle.std.proofs.Common.{ℕ, sym}
use Rattle.std.proofs.lemmas.Result.{IfOk-weaker}
use Rattle.mtn_roster.specs.Walk.{children_of}
use Rattle.mtn_roster.proofs.Naming.{named, all_within, run_held, run_read}
use Rattle.mtn_roster.proofs.roster.Roster.children.Goals as goal

pub names_of-requires : goal.names_of-requires
names_of-requires c =
    let t = c.self.inside.entries.items in
    let ks = c.self.inside.by_slot.items in
    let found = run_read t c.deref-2.result.now t ks c.deref-3.result.now c.run_of.result.now c.args.name.now c.run_of.ensures c.deref-2.ensures.value c.deref-3.ensures.value in
    let order = run_held t c.deref.result.now c.args.self.now ks c.run_of.result.now c.args.name.now c.self.invariant.0 c.self.invariant.1 found (sym c.deref.ensures.value) c.self.view_is in
    all_within c.deref.result.now ℕ (λ k. k) c.run_of.result.now (children_of c.args.self.now c.args.name.now) order

pub returns : goal.returns
returns c =
    let t = c.self.inside.entries.items in
    let ks = c.self.inside.by_slot.items in
    let found = run_read t c.deref-2.result.now t ks c.deref-3.result.now c.run_of.result.now c.args.name.now c.run_of.ensures c.deref-2.ensures.value c.deref-3.ensures.value in
    let order = run_held t c.deref.result.now c.args.self.now ks c.run_of.result.now c.args.name.now c.self.invariant.0 c.self.invariant.1 found (sym c.deref.ensures.value) c.self.view_is in
    IfOk-weaker c.names_of.result _ _ (λ names h. named c.deref.result.now ℕ (λ k. k) c.run_of.result.now (children_of c.args.self.now c.args.name.now) names.items order h) c.names_of.ensures
