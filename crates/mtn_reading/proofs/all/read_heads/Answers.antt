-- Packet by packet.
use Rattle.std.proofs.Common.{◌≡◌, ◌+◌, Err, sym, ap, ◌∙◌, subst, ⊎_elim, arith}
use Rattle.mtn_history.specs.Damage.{IsDamage}
use Rattle.mtn_history.specs.Errors.{IfStoreDamage}
use Rattle.mtn_history.specs.Marked.{IsCounted}
use Rattle.mtn_history.specs.declared.errors.HistoryError.TheVariants as history
use Rattle.mtn_history.specs.declared.errors.StoreError.TheVariants.{Failed}
use Rattle.mtn_history.specs.declared.pending.Pending.{Pending}
use Rattle.mtn_imports.specs.Imports.{Kept}
use Rattle.mtn_ports.proofs.KeptLemmas.{stays_trans}
use Rattle.mtn_ports.specs.Causes.{Rose}
use Rattle.mtn_ports.specs.Kept.{with_all}
use Rattle.mtn_reading.specs.Heads.{packet_at}
use Rattle.mtn_reading.specs.declared.error.ReadError.TheVariants.{Store}
use Rattle.mtn_reading.proofs.AllReading.{damage_shown, ended, fault_of, reached, stopped}
use Rattle.mtn_reading.proofs.UnfitReading.{answers, at_told, if_told, joined, sound, spoiled}
use Rattle.mtn_reading.proofs.all.read_heads.Goals as goal

pub returns-then-number-eq1-clause-stays : goal.returns-then-number-eq1-clause-stays
returns-then-number-eq1-clause-stays g c = stays_trans g.K.Keeper.contents g.K.Keeper.leaves g.K.Keeper.faults _ _ _ c.loop-head.invariant.stays c.in-Err.ensures.stays

pub returns-then-number-eq1-clause-reads : goal.returns-then-number-eq1-clause-reads
returns-then-number-eq1-clause-reads g c = λ k s told draft.
    let f = g.I.Ident.meaning c.args.ident.now in
    let so = c.loop-head.invariant.reads k s (c.in-Err.ensures.stays.same k told) draft in
    let reads = c.in-Err.ensures.reads k so.0 told so.2 in
    stopped f k s c.args.payloads.now c.args.heads.now c.loop-head.head-index c.head-item.result c.loop-head-test.true c.head-item.is _ c.loop-head.draft.pending so
    (c.loop-head.number + 1) c.in-Err.error c.numbered.result c.read_one.new.draft.pending (ap (λ n. n + 1) c.loop-head.invariant.number) c.numbered.ensures reads

pub returns-then-number-eq1-clause-damaged : goal.returns-then-number-eq1-clause-damaged
returns-then-number-eq1-clause-damaged g c =
    damage_shown (c.loop-head.number + 1) c.in-Err.error c.numbered.result c.numbered.ensures (g.I.Ident.meaning c.args.ident.now) (g.K.Keeper.contents c.read_one.new.draft.keeper.now) c.loop-head.draft.pending c.args.draft.now.pending
    (sym (c.loop-head.invariant.first (omega (arith, c.loop-head.invariant.number, c.if-number-eq1.true)))) c.in-Err.ensures.damaged

pub returns-in-Err-clause-stays : goal.returns-in-Err-clause-stays
returns-in-Err-clause-stays g c =
    stays_trans g.K.Keeper.contents g.K.Keeper.leaves g.K.Keeper.faults _ _ _ (stays_trans g.K.Keeper.contents g.K.Keeper.leaves g.K.Keeper.faults _ _ _ c.loop-head.invariant.stays c.in-Err.ensures.stays) c.kept_error.ensures.stays

pub returns-in-Err-clause-reads : goal.returns-in-Err-clause-reads
returns-in-Err-clause-reads g c = λ k s told draft.
    let f = g.I.Ident.meaning c.args.ident.now in
    let mid = c.kept_error.ensures.stays.same k told in
    let so = c.loop-head.invariant.reads k s (c.in-Err.ensures.stays.same k mid) draft in
    let reads = c.in-Err.ensures.reads k so.0 mid so.2 in
    stopped f k s c.args.payloads.now c.args.heads.now c.loop-head.head-index c.head-item.result c.loop-head-test.true c.head-item.is _ c.loop-head.draft.pending so
    (c.loop-head.number + 1) c.kept_error.result c.numbered-in-Err.result c.kept_error.new.draft.pending (ap (λ n. n + 1) c.loop-head.invariant.number) c.numbered-in-Err.ensures
    (answers f k so.0 (packet_at c.args.payloads.now c.head-item.result) c.in-Err.error c.kept_error.result c.read_one.new.draft.pending c.kept_error.new.draft.pending c.kept_error.ensures.answered reads)

pub returns-in-Err-clause-damaged : goal.returns-in-Err-clause-damaged
returns-in-Err-clause-damaged g c = if_told (g.K.Keeper.contents c.kept_error.new.draft.keeper.now) _ (λ k told counted.
    let f = g.I.Ident.meaning c.args.ident.now in
    let mid = c.kept_error.ensures.stays.same k told in
    let p = c.loop-head.draft.pending in
    spoiled f k c.args.draft.now.pending c.requires.bare counted p (c.loop-head.number + 1) c.in-Err.error c.kept_error.result c.numbered-in-Err.result c.numbered-in-Err.ensures c.kept_error.ensures.answered
    (λ s draft.
    let so = c.loop-head.invariant.reads k s (c.in-Err.ensures.stays.same k mid) draft in
    sound f k so.0 (packet_at c.args.payloads.now c.head-item.result) c.in-Err.error c.read_one.new.draft.pending (c.in-Err.ensures.reads k so.0 mid so.2))
    (joined (IsCounted p k) (IsDamage (with_all k p.batch)) c.in-Err.error
    (subst (λ (q : Pending). IfStoreDamage c.in-Err.error (λ _. IsCounted q k)) (c.kept_error.ensures.pending ∙ c.in-Err.ensures.err) (at_told (g.K.Keeper.contents c.kept_error.new.draft.keeper.now) _ k told c.kept_error.ensures.counted))
    (at_told (g.K.Keeper.contents c.read_one.new.draft.keeper.now) _ k mid c.in-Err.ensures.damaged))
    (at_told (g.K.Keeper.contents c.kept_error.new.draft.keeper.now) _ k told c.kept_error.ensures.kept))

pub returns-in-Err-clause-failed : goal.returns-in-Err-clause-failed
returns-in-Err-clause-failed g c = λ is.
    let before = c.loop-head.invariant.stays.later in
    let mid = c.in-Err.ensures.stays.later in
    let after = c.kept_error.ensures.stays.later in
    ⊎_elim
    (λ (e : c.in-Err.error ≡ history.Store Failed). let rose = c.in-Err.ensures.failed (ap Err e) in omega (arith, rose, before, after))
    (λ (rose : Rose (g.K.Keeper.faults c.read_one.new.draft.keeper.now) (g.K.Keeper.faults c.kept_error.new.draft.keeper.now)). omega (arith, rose, before, mid))
    (c.kept_error.ensures.failed (fault_of (c.loop-head.number + 1) c.kept_error.result c.numbered-in-Err.result c.numbered-in-Err.ensures (let same : Err c.numbered-in-Err.result ≡ Err (Store Failed) = is in cc)))

pub loop-head-preserved : goal.loop-head-preserved
loop-head-preserved g c =
    let files = ap (λ (k : Kept). k.files) c.add.ensures in
    let revisions = ap (λ (k : Kept). k.revisions) c.add.ensures in
    let certs = ap (λ (k : Kept). k.certs) c.add.ensures in
    let few = c.in-Ok.ensures.few in
    record {
      number = ap (λ n. n + 1) c.loop-head.invariant.number;
      first = λ none. absurd (omega (arith, none));
      files = (let a = c.loop-head.invariant.files in let b = few.files in omega (arith, a, b, files));
      revisions = (let a = c.loop-head.invariant.revisions in let b = few.revisions in omega (arith, a, b, revisions));
      certs = (let a = c.loop-head.invariant.certs in let b = few.certs in omega (arith, a, b, certs));
      same_reference = c.in-Ok.ensures.same_reference ∙ c.loop-head.invariant.same_reference;
      stays = stays_trans g.K.Keeper.contents g.K.Keeper.leaves g.K.Keeper.faults _ _ _ c.loop-head.invariant.stays c.in-Ok.ensures.stays;
      reads = λ k s told draft.
          let f = g.I.Ident.meaning c.args.ident.now in
          let so = c.loop-head.invariant.reads k s (c.in-Ok.ensures.stays.same k told) draft in
          let reads = c.in-Ok.ensures.reads k so.0 told so.2 in
          reached f k s c.args.payloads.now c.args.heads.now c.loop-head.head-index c.head-item.result c.loop-head-test.true c.head-item.is _ c.loop-head.draft.pending so
          c.in-Ok.one c.add.new.counts c.read_one.new.draft.pending reads c.add.ensures;
    }

pub returns-clause-reads : goal.returns-clause-reads
returns-clause-reads g c = λ k s told draft.
    ended (g.I.Ident.meaning c.args.ident.now) k s c.args.payloads.now c.args.heads.now c.loop-head.head-index c.loop-head.counts c.loop-head.draft.pending (omega (arith, c.loop-head-test.false))
    (c.loop-head.invariant.reads k s told draft)
