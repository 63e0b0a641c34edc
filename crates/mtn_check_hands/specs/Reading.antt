-- What is asked for on the way to a position, and what is answered.
use Rattle.std.specs.Prelude.{◌≡◌, ◌⊎◌, ℕ, false, List, [], ◌∷◌, ◌++◌, None, Some, IsSome, IsTrue}
use Rattle.std.specs.List.{AllZip}
use Rattle.mtn_changes.specs.declared.change.Revision.{Revision as Spelled}
use Rattle.mtn_check_laws.specs.FirstDamage.{IsBegun}
use Rattle.mtn_check_laws.specs.Fronts.{Front, IsFrontAt}
use Rattle.mtn_check_pieces.specs.Verdict.{IsRevisionOf}
use Rattle.mtn_check_records.specs.Reading.{named_in, places_of, IsHandOf, IsParentIn, IsReadAt}
use Rattle.mtn_check_records.specs.declared.hand.Hand.{Hand}
use Rattle.mtn_history.specs.Revisions.{Kept, next_of}
use Rattle.mtn_history_laws.specs.History.{Revision}
use Rattle.mtn_make_roster.specs.Basis.{AreUncommonIn}
use Rattle.mtn_make_roster.specs.declared.basis.Uncommon.{Uncommon}
use Rattle.mtn_model.specs.State.{Logged}
use Rattle.mtn_model.specs.Table.{Contents, body_at}
use Rattle.mtn_records.specs.Bounds.{IsLogAt}
use Rattle.mtn_records.specs.Fields.{number_text}
use Rattle.mtn_replay.specs.Making.{unknown_file}
use Rattle.mtn_check_hands.specs.Hands.{AreRightBelow, Has}
use Rattle.mtn_check_hands.specs.declared.contents.Mentions.{Mentions}
use Rattle.mtn_check_hands.specs.declared.asked.Answer.{Answer}
use Rattle.mtn_check_hands.specs.declared.asked.Answer.TheVariants.{Apart, Held}
use Rattle.mtn_check_hands.specs.declared.asked.Asked.{Asked}
use Rattle.mtn_check_hands.specs.declared.asked.Asked.TheVariants.{Between, Kept as KeptOf}
use Rattle.mtn_check_hands.specs.declared.hands.Hands.{Hands}
use Rattle.mtn_check_hands.specs.declared.kin.Kin.{Kin}
use Rattle.mtn_check_hands.specs.declared.read.Read.{Read}
use Rattle.mtn_check_hands.specs.declared.records.Records.{Records}

-- the texts of a log, the history that they spell, and what is kept of it
abbrev pub front_with : List Logged → List Revision → List Kept → Front
front_with log history kept = record { log = log; history = history; kept = kept }

-- the answer to a question about the revisions of a front
abbrev pub IsAnswer : Front → Asked → Answer → Type 0
IsAnswer front (KeptOf p) (Held hand) = IsHandOf front p hand
IsAnswer front (Between p q) (Apart left right) = AreUncommonIn front.history p q left × AreUncommonIn front.history q p right
IsAnswer front _ _ = ⊥

-- the same over the front below a position
abbrev pub IsAnswerBelow : Contents → ℕ → Asked → Answer → Type 0
IsAnswerBelow c r asked answer = (f : List ℕ → List ℕ) (n : ℕ) (front : Front) → IsBegun f c n → IsFrontAt f c r front → IsAnswer front asked answer

-- so it is over the front below a position, where what is at hand is right
abbrev pub WhereRight : Contents → ℕ → Hands → (Front → Type 0) → Type 0
WhereRight c r hands P = (f : List ℕ → List ℕ) (n : ℕ) (front : Front) → IsBegun f c n → IsFrontAt f c r front → AreRightBelow r front hands → P front

-- what is kept of the revision at p
abbrev pub IsHandAt : Contents → ℕ → Hands → ℕ → Hand → Type 0
IsHandAt c r hands p hand = WhereRight c r hands (λ front. IsHandOf front p hand)

-- the least number that no node has
abbrev pub IsNextAt : Contents → ℕ → Hands → ℕ → Type 0
IsNextAt c r hands next = WhereRight c r hands (λ front. next ≡ next_of front.kept)

-- of two parents, what each has above it that the other lacks
abbrev pub AreApart : List Revision → List ℕ → Uncommon → Uncommon → Type 0
AreApart h (p ∷ q ∷ []) left right = AreUncommonIn h p q left × AreUncommonIn h q p right
AreApart h _ left right = Unit {0}

-- the parents that were read
abbrev pub AreKinAt : Contents → ℕ → Hands → Kin → Type 0
AreKinAt c r hands kin = WhereRight c r hands (λ front. AllZip (IsParentIn front) kin.parents kin.records × AreApart front.history (places_of kin.parents) kin.only_left kin.only_right)

-- what a text mentions: the parents that it names, and whether each content that it brings is held
pub record IsMentioned (c : Contents) (text : List ℕ) (m : Mentions) : Type 0 where
  pub named : (v : Spelled) → IsRevisionOf text v → named_in v.edges ≡ m.parents
  pub files : (v : Spelled) → IsRevisionOf text v → IsTrue m.held → unknown_file (c 2) v.edges ≡ None
  pub unheld : (v : Spelled) → IsRevisionOf text v → m.held ≡ false → IsSome (unknown_file (c 2) v.edges)

-- the records of a position
pub record AreRecordsAt (c : Contents) (r : ℕ) (records : Records) : Type 0 where
  pub log : body_at c 4 (number_text r) ≡ Some records.log.items
  pub formed : IsLogAt r records.log.items records.entry
  pub text : body_at c 3 records.entry.id.0 ≡ Some (number_text r ++ records.text)
  pub roster : body_at c 5 (number_text r) ≡ Some records.roster.items
  pub mentions : IsMentioned c records.text records.mentions

-- a position that was read with what is at hand
abbrev pub IsReadWith : Contents → ℕ → Hands → Read → Type 0
IsReadWith c r hands read = WhereRight c r hands (λ front. IsReadAt c r front read.position read.job)

-- nothing else is at hand than before
abbrev pub AreOf : Hands → Hands → Type 0
AreOf old new = (p : ℕ) (hand : Hand) → Has new p hand → Has old p hand

-- but for what is kept of one revision more
abbrev pub AreWith : Hands → ℕ → Hand → Hands → Type 0
AreWith old at hand new = (p : ℕ) (other : Hand) → Has new p other → ((p ≡ at) × (other ≡ hand)) ⊎ Has old p other
