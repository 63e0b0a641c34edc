use Rattle.std.proofs.Common.{◌≡◌}
use Rattle.std.proofs.lemmas.Result.{IfOk-weaker, IfErr-weaker, MatchResult-from_both}
use Rattle.mtn_packets.specs.declared.error.PacketError.TheVariants.{NoMemory}
use Rattle.mtn_packets.specs.Packets.{ArePackets}
use Rattle.mtn_packets.specs.Faults.{IsError}
use Rattle.mtn_pieces.proofs.Cuts.{those_alone, no_other_error}
use Rattle.mtn_pieces.proofs.packets.read_in_pieces.Goals as goal

pub returns-clause-only : goal.returns-clause-only
returns-clause-only g c packets are =
    let r = c.read_in_runs.result in
    let text = c.args.text.now in
    MatchResult-from_both r (λ v. v.items ≡ packets) (λ e. e ≡ NoMemory)
    (IfOk-weaker r (λ v. ArePackets v.items text) (λ v. v.items ≡ packets) (λ v read. those_alone packets v.items text are read) c.read_in_runs.ensures.ok)
    (IfErr-weaker r (λ e. IsError e text) (λ e. e ≡ NoMemory) (λ e bad. no_other_error packets text e are bad) c.read_in_runs.ensures.err)
