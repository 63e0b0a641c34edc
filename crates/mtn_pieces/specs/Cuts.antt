-- Where an input may be cut, and the error of its second part. Private functions alone cite this.
use Rattle.std.specs.Prelude.{◌≡◌, ℕ, ◌+◌, ◌<◌, ◌^◌, List, length}
use Rattle.memchr.specs.Find.{OccursAt}
use Rattle.mtn_packets.specs.declared.error.PacketError.{PacketError}
use Rattle.mtn_packets.specs.declared.error.PacketError.TheVariants.{BadPacket, NoMemory}
use Rattle.mtn_packets.specs.Packets.{end_mark}

-- the text ends with `[end]`
pub record EndsAtMark (text : List ℕ) : Type 0 where
  pub place : ℕ
  pub stands : OccursAt text end_mark place
  pub last : length text ≡ place + 5

-- the error of a text with so many packets in front of it
abbrev pub error_behind : ℕ → PacketError → PacketError
error_behind packets (BadPacket number w) = BadPacket (packets + number) w
error_behind packets NoMemory = NoMemory

-- its number fits into 64 bits
abbrev pub FitsBehind : ℕ → PacketError → Type 0
FitsBehind packets (BadPacket number w) = packets + number < 2 ^ 64
FitsBehind packets NoMemory = Unit {0}
