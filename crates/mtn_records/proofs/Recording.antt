-- What a front of bytes spells of a record.
use Rattle.std.proofs.Common.{◌≡◌, sym, ap, ◌∙◌, ℕ, Bool, true, false, List, [], ◌∷◌, ◌++◌, length}
use Rattle.std.specs.Prelude.{◌==◌}
use Rattle.std.proofs.lemmas.List.{append_assoc, append-nil}
use Rattle.mtn_base.specs.declared.id.Id.{Id}
use Rattle.mtn_ancestry.specs.declared.pos.ParentList.{ParentList}
use Rattle.mtn_ancestry.specs.declared.pos.ParentList.TheVariants.{Zero, One, Two}
use Rattle.mtn_records.specs.declared.entry.NumberedEntry.{NumberedEntry}
use Rattle.mtn_records.specs.declared.record.RosterRecord.{RosterRecord}
use Rattle.mtn_records.specs.declared.record.RosterRecord.TheVariants.{Whole, Delta}
use Rattle.mtn_records.specs.Fields.{AreApart, Begins, BeginsWithNone, flag_text, id_text, IsTwenty, number_text, IsNumber, pair_text, IsPair}
use Rattle.mtn_records.specs.Apart.{id_apart}
use Rattle.mtn_records.specs.Records.{byte_text, delta_text, roster_text, IsRosterRecord, parents_text, AreParents, log_text, IsLogRecord}
use Rattle.mtn_records.specs.RecordsApart.{delta_parts_text, AreDeltaParts, log_parts, from_next, IsFromNext}
use Rattle.mtn_records.proofs.Reading.{pair_none}

pub roster_by_flag : (bytes : List ℕ) → BeginsWithNone flag_text (λ b. Unit {0}) bytes → BeginsWithNone roster_text IsRosterRecord bytes
roster_by_flag bytes none (Whole v) r form e = none false _ tt e
roster_by_flag bytes none (Delta b d g c) r form e = none true _ tt e

pub roster_by_delta : (bytes rest : List ℕ) → bytes ≡ 1 ∷ rest → BeginsWithNone delta_parts_text AreDeltaParts rest → BeginsWithNone roster_text IsRosterRecord bytes
roster_by_delta bytes rest is none (Whole v) r form e = absurd cc
roster_by_delta bytes rest is none (Delta b d g c) r form e = none (b, (d, (g, c))) r form cc

-- texts, one behind the other
pub two : (out a b one all : List ℕ) → one ≡ out ++ a → all ≡ one ++ b → all ≡ out ++ (a ++ b)
two out a b one all p q = q ∙ ap (λ x. x ++ b) p ∙ append_assoc out a b

pub three : (out a b c one more all : List ℕ) → one ≡ out ++ a → more ≡ one ++ b → all ≡ more ++ c → all ≡ out ++ (a ++ (b ++ c))
three out a b c one more all p q r = two out a (b ++ c) one all p (two one b c more all q r)

pub four : (out a b c d one two three all : List ℕ) → one ≡ out ++ a → two ≡ one ++ b → three ≡ two ++ c → all ≡ three ++ d → all ≡ out ++ (a ++ (b ++ (c ++ d)))
four out a b c d one two three all p q r s =
    s ∙ ap (λ x. x ++ d) (r ∙ ap (λ x. x ++ c) (q ∙ ap (λ x. x ++ b) p))
    ∙ append_assoc (out ++ a ++ b) c d ∙ append_assoc (out ++ a) b (c ++ d) ∙ append_assoc out a (b ++ (c ++ d))

-- what differs, behind the flag
pub behind_flag : (out one all : List ℕ) (v : RosterRecord) (b d : ℕ) (g : List ℕ) (ch : List NumberedEntry) → v ≡ Delta b d g ch →
    one ≡ out ++ flag_text true → all ≡ one ++ delta_text b d g ch → all ≡ out ++ roster_text v
behind_flag out one all v b d g ch is p q = rw is (q ∙ ap (λ x. x ++ delta_text b d g ch) p ∙ append_assoc out (flag_text true) (delta_text b d g ch))

pub not_empty : (rest : List ℕ) (b : Bool) → b ≡ (length rest == 0) → b ≡ false → rest ≡ [] → ⊥
not_empty [] b is not e = absurd cc
not_empty (x ∷ xs) b is not e = absurd cc

-- what spells a whole body
module _ {T : Type 0} (text : T → List ℕ) (form : T → Type 0) (body : List ℕ) where
  pub none_spells : BeginsWithNone text form body → (v : T) → form v → body ≡ text v → ⊥
  none_spells none v formed whole = none v [] formed (whole ∙ sym (append-nil (text v)))

  -- it is what the bytes begin with, and nothing is behind it
  pub only_spells : AreApart text form → (rest : List ℕ) (read : T) → Begins text form body read rest → (v : T) → form v → body ≡ text v → (read ≡ v) × (rest ≡ [])
  only_spells apart rest read begins v formed whole = apart read v rest [] begins.formed formed (sym begins.whole ∙ whole ∙ sym (append-nil (text v)))

-- two parents are a pair
pub parents_by_two : (bytes rest : List ℕ) → bytes ≡ 2 ∷ rest → BeginsWithNone (pair_text number_text number_text) (IsPair IsNumber IsNumber) rest → BeginsWithNone parents_text AreParents bytes
parents_by_two bytes rest is none (Two p q) r form e = none (p, q) r (form.0, form.1.0) cc
parents_by_two bytes rest is none (One p) r form e = absurd cc
parents_by_two bytes rest is none Zero r form e = absurd cc

-- two of them, behind their count
pub behind_two : (out one two all : List ℕ) (v : ParentList) (p q : ℕ) → v ≡ Two p q →
    one ≡ out ++ byte_text 2 → two ≡ one ++ number_text p → all ≡ two ++ number_text q → all ≡ out ++ parents_text v
behind_two out one two all v p q is a b c = rw is (four out (byte_text 2) (number_text p) (number_text q) [] one two all all a b c (sym (append-nil all)))

pub log_by_next : (bytes rest : List ℕ) (id : Id) → Begins id_text IsTwenty bytes id rest → BeginsWithNone from_next IsFromNext rest → BeginsWithNone log_text IsLogRecord bytes
log_by_next bytes rest id begins none v r form e = pair_none id_text IsTwenty from_next IsFromNext bytes rest id id_apart begins none (log_parts v) r form e
