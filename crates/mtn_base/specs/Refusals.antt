-- The line of a refusal, our choice: its name, and its fields with one space before each. Ids are forty digits, numbers are
-- decimal, paths are quoted as in basic_io, and reasons stand by name.
use Rattle.std.specs.Prelude.{ℕ, ◌==◌, Bool, true, false, List, [], ◌∷◌, ◌++◌, decimal, codes, if◌then◌else◌}
use Rattle.hex.specs.Hex.{encode_lower}
use Rattle.mtn_base.specs.Paths.{path_text}
use Rattle.mtn_base.specs.Quoted.{quoted}
use Rattle.mtn_base.specs.declared.id.Id.{Id}
use Rattle.mtn_base.specs.declared.refusal.Why.{Why}
use Rattle.mtn_base.specs.declared.refusal.Why.TheVariants as why
use Rattle.mtn_base.specs.declared.refusal.PacketWhy.{PacketWhy}
use Rattle.mtn_base.specs.declared.refusal.PacketWhy.TheVariants as packet_why
use Rattle.mtn_base.specs.declared.refusal.Field.{Field}
use Rattle.mtn_base.specs.declared.refusal.Field.TheVariants as field
use Rattle.mtn_base.specs.declared.refusal.Cause.{Cause}
use Rattle.mtn_base.specs.declared.refusal.Cause.TheVariants.{TextTooLong, NotText, BadStanza, BadOrder, Repeated, BadEdge, Collision, LogFull, UnknownParent, BadChange, Disagree, Revived, TooManyNodes, PathTooLong, UnknownFile, ManifestDiffers, UnknownRevision, NoSuchPath, NotAFile, Related, UnknownNode, NotADirectory, NotAConflict, BadField, NoBranch, OneHead, BadPacket, IdMismatch, StoreNotEmpty, BadRequest, OldStore, NotOld, KeyNamed, UnknownKey}
use Rattle.mtn_base.specs.declared.refusal.Refusal.{Refusal}

abbrev pub why_name : Why → List ℕ
why_name why.NoPath = codes "NoPath"
why_name why.Taken = codes "Taken"
why_name why.NoParent = codes "NoParent"
why_name why.NotDir = codes "NotDir"
why_name why.NotFile = codes "NotFile"
why_name why.NotEmpty = codes "NotEmpty"
why_name why.WrongContent = codes "WrongContent"
why_name why.NoChange = codes "NoChange"
why_name why.NoAttr = codes "NoAttr"
why_name why.NoRoot = codes "NoRoot"
why_name why.Reserved = codes "Reserved"

abbrev pub packet_why_name : PacketWhy → List ℕ
packet_why_name packet_why.Truncated = codes "Truncated"
packet_why_name packet_why.Unsupported = codes "Unsupported"
packet_why_name packet_why.NotPacket = codes "NotPacket"
packet_why_name packet_why.BadBase64 = codes "BadBase64"

abbrev pub field_name : Field → List ℕ
field_name field.Signature = codes "signature"
field_name field.Name = codes "name"
field_name field.Key = codes "key"

-- one space and a word
abbrev pub word_field : List ℕ → List ℕ
word_field word = 32 ∷ word

abbrev pub number_field : ℕ → List ℕ
number_field n = 32 ∷ decimal n

abbrev pub id_field : Id → List ℕ
id_field id = 32 ∷ encode_lower id.0

abbrev pub path_field : List (List ℕ) → List ℕ
path_field path = 32 ∷ quoted (path_text path)

abbrev pub cause_name : Cause → List ℕ
cause_name (TextTooLong _) = codes "TextTooLong"
cause_name (NotText _) = codes "NotText"
cause_name (BadStanza _) = codes "BadStanza"
cause_name (BadOrder _) = codes "BadOrder"
cause_name (Repeated _) = codes "Repeated"
cause_name (BadEdge _) = codes "BadEdge"
cause_name (Collision _) = codes "Collision"
cause_name (LogFull _) = codes "LogFull"
cause_name (UnknownParent _) = codes "UnknownParent"
cause_name (BadChange _ _ _) = codes "BadChange"
cause_name (Disagree _) = codes "Disagree"
cause_name (Revived _) = codes "Revived"
cause_name (TooManyNodes _) = codes "TooManyNodes"
cause_name (PathTooLong _) = codes "PathTooLong"
cause_name (UnknownFile _) = codes "UnknownFile"
cause_name (ManifestDiffers _) = codes "ManifestDiffers"
cause_name (UnknownRevision _) = codes "UnknownRevision"
cause_name (NoSuchPath _) = codes "NoSuchPath"
cause_name (NotAFile _) = codes "NotAFile"
cause_name (Related _ _) = codes "Related"
cause_name (UnknownNode _) = codes "UnknownNode"
cause_name (NotADirectory _) = codes "NotADirectory"
cause_name (NotAConflict _) = codes "NotAConflict"
cause_name (BadField _) = codes "BadField"
cause_name NoBranch = codes "NoBranch"
cause_name (OneHead _) = codes "OneHead"
cause_name (BadPacket _ _) = codes "BadPacket"
cause_name (IdMismatch _ _) = codes "IdMismatch"
cause_name (StoreNotEmpty _) = codes "StoreNotEmpty"
cause_name (BadRequest _) = codes "BadRequest"
cause_name OldStore = codes "OldStore"
cause_name NotOld = codes "NotOld"
cause_name (KeyNamed _ _) = codes "KeyNamed"
cause_name (UnknownKey _) = codes "UnknownKey"

-- the fields, with one space before each
abbrev pub cause_fields : Cause → List ℕ
cause_fields (TextTooLong length) = number_field length
cause_fields (NotText offset) = number_field offset
cause_fields (BadStanza number) = number_field number
cause_fields (BadOrder number) = number_field number
cause_fields (Repeated number) = number_field number
cause_fields (BadEdge number) = number_field number
cause_fields (Collision id) = id_field id
cause_fields (LogFull count) = number_field count
cause_fields (UnknownParent id) = id_field id
cause_fields (BadChange edge number why) = number_field edge ++ number_field number ++ word_field (why_name why)
cause_fields (Disagree path) = path_field path
cause_fields (Revived path) = path_field path
cause_fields (TooManyNodes count) = number_field count
cause_fields (PathTooLong path) = path_field path
cause_fields (UnknownFile id) = id_field id
cause_fields (ManifestDiffers computed) = id_field computed
cause_fields (UnknownRevision id) = id_field id
cause_fields (NoSuchPath path) = path_field path
cause_fields (NotAFile path) = path_field path
cause_fields (Related older newer) = id_field older ++ id_field newer
cause_fields (UnknownNode number) = number_field number
cause_fields (NotADirectory number) = number_field number
cause_fields (NotAConflict number) = number_field number
cause_fields (BadField field) = word_field (field_name field)
cause_fields NoBranch = []
cause_fields (OneHead id) = id_field id
cause_fields (BadPacket number why) = number_field number ++ word_field (packet_why_name why)
cause_fields (IdMismatch number computed) = number_field number ++ id_field computed
cause_fields (StoreNotEmpty count) = number_field count
cause_fields (BadRequest number) = number_field number
-- the version of the store that is not read
cause_fields OldStore = number_field 1
cause_fields NotOld = []
cause_fields (KeyNamed id held) = id_field id ++ word_field held
cause_fields (UnknownKey name) = word_field name

-- refusals of one packet among several say which
abbrev pub packet_text : ℕ → List ℕ
packet_text packet = if packet == 0 then [] else codes " InPacket" ++ number_field packet

-- whether a path or a name is shown
abbrev pub shows_text : Cause → Bool
shows_text (Disagree _) = true
shows_text (Revived _) = true
shows_text (PathTooLong _) = true
shows_text (NoSuchPath _) = true
shows_text (NotAFile _) = true
shows_text (KeyNamed _ _) = true
shows_text (UnknownKey _) = true
shows_text _ = false

-- the line, LF included
abbrev pub refusal_text : Refusal → List ℕ
refusal_text r = codes "refused" ++ packet_text r.packet ++ word_field (cause_name r.cause) ++ cause_fields r.cause ++ 10 ∷ []
