use Rattle.std.proofs.Common.{◌≡◌, ℕ, ◌+◌, ◌<◌, ◌^◌, List, ◌++◌, length, sym, ap, subst, ◌∙◌, arith}
use Rattle.std.proofs.lemmas.Result.{IfOk-at_ok, IfErr-at_err}
use Rattle.mtn_packets.specs.declared.packet.Packet.{Packet}
use Rattle.mtn_packets.specs.declared.error.PacketError.{PacketError}
use Rattle.mtn_packets.specs.Packets.{ArePackets}
use Rattle.mtn_packets.specs.Faults.{IsError}
use Rattle.mtn_pieces.specs.Cuts.{EndsAtMark, FitsBehind, error_behind}
use Rattle.mtn_pieces.proofs.Cuts.{both_packets, error_stays, error_later, fits_later}
use Rattle.mtn_pieces.proofs.packets.+fn-read_in_runs-join+arg3+read_in_runs.Goals as goal

pub returns-in-Err-clause-err : goal.returns-in-Err-clause-err
returns-in-Err-clause-err g t c =
    let first = c.split_at.result.0.now in
    let others = c.split_at.result.1.now in
    let ends : EndsAtMark first = subst (λ (x : List ℕ). EndsAtMark x) (sym c.split_at.ensures.front) c.in-Some.ensures.1 in
    let bad : IsError c.in-Err.error first = IfErr-at_err (λ e. IsError e first) c.in-Err.is c.join-packets.ensures.first.1 in
    subst (λ (x : List ℕ). IsError c.in-Err.error x) (sym c.split_at.ensures.by_index.0) (error_stays first others c.in-Err.error ends bad)

pub returns-in_ok-in_a_row-in-Ok-rest-clause-ok : goal.returns-in_ok-in_a_row-in-Ok-rest-clause-ok
returns-in_ok-in_a_row-in-Ok-rest-clause-ok g t c =
    let first = c.split_at.result.0.now in
    let others = c.split_at.result.1.now in
    let front : ArePackets c.in-Ok.packets.items first = IfOk-at_ok (λ v. ArePackets v.items first) c.in-Ok.is c.join-packets.ensures.first.0 in
    let back : ArePackets c.in-Ok-rest.more.items others = IfOk-at_ok (λ v. ArePackets v.items others) c.in-Ok-rest.is c.join-packets.ensures.second.0 in
    let both = both_packets c.in-Ok.packets.items c.in-Ok-rest.more.items first others front back in
    subst (λ (x : List ℕ). ArePackets c.in_ok-in_a_row-in-Ok-rest.field-0.items x) (sym c.split_at.ensures.by_index.0)
    (subst (λ (ps : List Packet). ArePackets ps (first ++ others)) (sym (c.in_ok-in_a_row-in-Ok-rest.ensures {u = tt})) both)

pub behind-requires : goal.behind-requires
behind-requires g t c =
    let first = c.split_at.result.0.now in
    let others = c.split_at.result.1.now in
    let front : ArePackets c.in-Ok.packets.items first = IfOk-at_ok (λ v. ArePackets v.items first) c.in-Ok.is c.join-packets.ensures.first.0 in
    let back : IsError c.in-Err-rest.error others = IfErr-at_err (λ e. IsError e others) c.in-Err-rest.is c.join-packets.ensures.second.1 in
    let room : length first + length others < 2 ^ 64 = omega (arith, c.split_at.ensures.front_len, c.split_at.ensures.back_len) in
    let counted : length c.in-Ok.packets.items ≡ c.len.result = sym c.in-Ok.packets.ok.0 ∙ sym c.len.ensures in
    subst (λ (n : ℕ). FitsBehind n c.in-Err-rest.error) counted (fits_later c.in-Ok.packets.items first others c.in-Err-rest.error front back room)

pub returns-in-Err-rest-clause-err : goal.returns-in-Err-rest-clause-err
returns-in-Err-rest-clause-err g t c =
    let first = c.split_at.result.0.now in
    let others = c.split_at.result.1.now in
    let front : ArePackets c.in-Ok.packets.items first = IfOk-at_ok (λ v. ArePackets v.items first) c.in-Ok.is c.join-packets.ensures.first.0 in
    let back : IsError c.in-Err-rest.error others = IfErr-at_err (λ e. IsError e others) c.in-Err-rest.is c.join-packets.ensures.second.1 in
    let counted : length c.in-Ok.packets.items ≡ c.len.result = sym c.in-Ok.packets.ok.0 ∙ sym c.len.ensures in
    let raised : c.behind.result ≡ error_behind (length c.in-Ok.packets.items) c.in-Err-rest.error = c.behind.ensures ∙ ap (λ (n : ℕ). error_behind n c.in-Err-rest.error) (sym counted) in
    subst (λ (x : List ℕ). IsError c.behind.result x) (sym c.split_at.ensures.by_index.0)
    (subst (λ (e : PacketError). IsError e (first ++ others)) (sym raised) (error_later c.in-Ok.packets.items first others c.in-Err-rest.error front back))
