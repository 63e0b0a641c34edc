-- The input, all ids, the packets.
use Rattle.std.proofs.Common.{◌≡◌, None, sym, ◌∙◌}
use Rattle.mtn_imports.specs.Imports.{first_mismatch}
use Rattle.mtn_reading.specs.Heads.{packets_at}
use Rattle.mtn_reading.proofs.InputReading.{are_ready, matched, mismatched, unread}
use Rattle.mtn_reading.proofs.input.read.Goals as goal

pub returns-in-Err-clause-reads : goal.returns-in-Err-clause-reads
returns-in-Err-clause-reads g c = λ k s told draft.
    unread (g.I.Ident.meaning c.args.ident.now) k s c.args.text.now c.in-Err.error c.unread.result c.args.draft.now.pending c.in-Err.ensures.err c.unread.ensures

pub returns-in-Some-clause-reads : goal.returns-in-Some-clause-reads
returns-in-Some-clause-reads g c = λ k s told draft.
    let f = g.I.Ident.meaning c.args.ident.now in
    let heads = c.deref.result.now in
    let payloads = c.deref-2.result.now in
    let same : packets_at payloads heads ≡ c.in-Ok.packets.items = (λ i. packets_at (c.deref-2.ensures.value i) (c.deref.ensures.value i)) ∙ c.in_ok-heads.ensures.packets in
    mismatched f payloads k s c.args.text.now heads c.in-Ok.packets.items same c.in-Ok.ensures.ok c.in-Some.cause c.refused.result c.args.draft.now.pending (sym c.in-Some.is ∙ c.in_ok-cause.ensures) c.refused.ensures

pub read_heads-requires-clause-ready : goal.read_heads-requires-clause-ready
read_heads-requires-clause-ready g c = λ κs within.
    let f = g.I.Ident.meaning c.args.ident.now in
    let heads = c.deref-3.result.now in
    let payloads = c.deref-4.result.now in
    let same : packets_at payloads heads ≡ c.in-Ok.packets.items = (λ i. packets_at (c.deref-4.ensures.value i) (c.deref-3.ensures.value i)) ∙ c.in_ok-heads.ensures.packets in
    let none : None ≡ first_mismatch f 1 (packets_at payloads heads) = sym c.in_default.is ∙ c.in_ok-cause.ensures
    ∙ (λ i. first_mismatch f 1 (packets_at ((c.deref-2.ensures.value ∙ sym c.deref-4.ensures.value) i) ((c.deref.ensures.value ∙ sym c.deref-3.ensures.value) i))) in
    are_ready f payloads c.args.text.now heads c.in-Ok.packets.items same c.in-Ok.ensures.ok none

pub returns-clause-reads : goal.returns-clause-reads
returns-clause-reads g c = λ k s told draft.
    let f = g.I.Ident.meaning c.args.ident.now in
    let heads = c.deref-3.result.now in
    let payloads = c.deref-4.result.now in
    let same : packets_at payloads heads ≡ c.in-Ok.packets.items = (λ i. packets_at (c.deref-4.ensures.value i) (c.deref-3.ensures.value i)) ∙ c.in_ok-heads.ensures.packets in
    let none : None ≡ first_mismatch f 1 (packets_at payloads heads) = sym c.in_default.is ∙ c.in_ok-cause.ensures
    ∙ (λ i. first_mismatch f 1 (packets_at ((c.deref-2.ensures.value ∙ sym c.deref-4.ensures.value) i) ((c.deref.ensures.value ∙ sym c.deref-3.ensures.value) i))) in
    matched f payloads k s c.args.text.now heads c.in-Ok.packets.items same c.in-Ok.ensures.ok none c.read_heads.result c.read_heads.new.draft.pending (c.read_heads.ensures.reads k s told draft)
