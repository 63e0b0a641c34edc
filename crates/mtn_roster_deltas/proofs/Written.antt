-- What was written is read and rebuilt.
use Rattle.std.proofs.Common.{◌≡◌, ◌≤◌, ℕ, cond, None, List, [], ◌∷◌, ◌++◌, length, Some, sym, ap, ◌∙◌}
use Rattle.std.proofs.lemmas.List.{append-nil}
use Rattle.mtn_marking.specs.Marking.{MarkedTree}
use Rattle.mtn_records.specs.Bounds.{IsRosterAt}
use Rattle.mtn_records.specs.Records.{roster_text}
use Rattle.mtn_records.specs.RecordsApart.{roster_apart}
use Rattle.mtn_records.specs.declared.record.RosterRecord.{RosterRecord}
use Rattle.mtn_records.specs.declared.record.RosterRecord.TheVariants.{Whole, Delta}
use Rattle.mtn_roster_deltas.specs.Chain.{Entries, deepest, rebuilt}
use Rattle.mtn_roster_deltas.specs.Difference.{IsDifference}
use Rattle.mtn_roster_deltas.specs.Spelled.{Spells}
use Rattle.mtn_roster_deltas.specs.Laws.{Gives}
use Rattle.mtn_roster_deltas.proofs.Differing.{chain_grows}
use Rattle.mtn_roster_deltas.proofs.Spelling.{one_tree}

-- a body is that of one record
one_record : (at : ℕ) (body : List ℕ) (r s : RosterRecord) → IsRosterAt at body r → IsRosterAt at body s → r ≡ s
one_record at body r s a b =
    let both = roster_apart r s [] [] a.formed b.formed (append-nil (roster_text r) ∙ sym a.whole ∙ b.whole ∙ sym (append-nil (roster_text s))) in both.0

pub whole_again : (at : ℕ) (body : List ℕ) (es : Entries) (t : MarkedTree) (r : RosterRecord) → Spells es t → IsRosterAt at body (Whole es) → IsRosterAt at body r → Gives (r ∷ []) es t
whole_again at body es t r spells written read = record {
  entries = ap (λ x. rebuilt (x ∷ [])) (one_record at body r (Whole es) read written) ∙ ap (λ b. cond b (Some es) None) spells.ascending;
  spelled = spells;
  only = λ u other. one_tree es u t other spells;
}

pub delta_again : (at : ℕ) (body : List ℕ) (chain : List RosterRecord) (base es changed : Entries) (gone : List ℕ) (base_at : ℕ) (t : MarkedTree) (r : RosterRecord) →
    length chain ≤ deepest → rebuilt chain ≡ Some base → Spells es t → IsDifference base es gone changed →
    IsRosterAt at body (Delta base_at (length chain) gone changed) → IsRosterAt at body r → Gives (chain ++ r ∷ []) es t
delta_again at body chain base es changed gone base_at t r le built spells differ written read = record {
  entries = ap (λ x. rebuilt (chain ++ x ∷ [])) (one_record at body r (Delta base_at (length chain) gone changed) read written) ∙ chain_grows chain base es changed gone base_at le built spells.ascending differ;
  spelled = spells;
  only = λ u other. one_tree es u t other spells;
}
