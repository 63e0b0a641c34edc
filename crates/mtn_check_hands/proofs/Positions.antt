-- A position, put together.
use Rattle.std.specs.Prelude.{IfSome}
use Rattle.std.proofs.Common.{◌≡◌, ℕ, List, [], ◌∷◌, Option, Some, None, refl, sym, ◌∙◌, subst}
use Rattle.mtn_check_pieces.specs.declared.job.CheckJob.{CheckJob}
use Rattle.mtn_check_pieces_laws.specs.Behind.{AreApartIn}
use Rattle.mtn_history_laws.specs.History.{Revision}
use Rattle.mtn_model.specs.Table.{Contents}
use Rattle.mtn_ports.proofs.KeptLemmas.{if_same}
use Rattle.mtn_ports.specs.Kept.{Same}
use Rattle.mtn_check_records.specs.Reading.{ids_of, places_of, IsGivenAt}
use Rattle.mtn_check_hands.specs.Hands.{IsHandRead}
use Rattle.mtn_check_hands.specs.Putting.{IsReadOf, read_of}
use Rattle.mtn_check_hands.specs.Reading.{AreApart, AreKinAt, AreRecordsAt, IsNextAt, IsReadWith}
use Rattle.mtn_check_hands.specs.declared.hands.Hands.{Hands}
use Rattle.mtn_check_hands.specs.declared.kin.Kin.{Kin}
use Rattle.mtn_check_hands.specs.declared.read.Read.{Read}
use Rattle.mtn_check_hands.specs.declared.records.Records.{Records}
use Rattle.mtn_check_hands.specs.declared.stored.Stored.{Stored}

apart_in : (h : List Revision) (ps : List ℕ) (job : CheckJob) → AreApart h ps job.only_left job.only_right → AreApartIn h ps job
apart_in h [] job is = tt
apart_in h (p ∷ []) job is = tt
apart_in h (p ∷ q ∷ []) job is = is
apart_in h (p ∷ q ∷ r ∷ ps) job is = tt

read_with : (c : Contents) (at : ℕ) (hands : Hands) (records : Records) (next : ℕ) (kin : Kin) (stored : Stored) → AreRecordsAt c at records → IsNextAt c at hands next → AreKinAt c at hands kin → ids_of kin.parents ≡ records.mentions.parents →
    IsGivenAt at records.roster.items kin.parents kin.records stored.entries stored.depth → IsReadWith c at hands (read_of at records next kin stored)
read_with c at hands records next kin stored are is_next are_kin named given = λ f n front begun walked right.
    let related = are_kin f n front begun walked right in
    record {
      here = refl;
      log = are.log;
      formed = are.formed;
      id = refl;
      text = are.text;
      roster = are.roster;
      next = is_next f n front begun walked right;
      parents = related.0;
      apart = apart_in front.history (places_of kin.parents) (read_of at records next kin stored).job related.1;
      named = λ v read. are.mentions.named v read ∙ sym named;
      files = are.mentions.files;
      unheld = are.mentions.unheld;
      stored = (stored.entries, refl, given);
    }

pub told_read : (first second told : Option Contents) (at : ℕ) (hands : Hands) (records : Records) (next : ℕ) (kin : Kin) (o : Option Read) → Same first second → Same second told →
    IfSome first (λ c. IsNextAt c at hands next) → IfSome second (λ c. AreRecordsAt c at records) → IfSome told (λ c. AreKinAt c at hands kin) → ids_of kin.parents ≡ records.mentions.parents →
    IfSome o (IsReadOf at records next kin) → IfSome told (λ c. IfSome o (IsReadWith c at hands))
told_read first second None at hands records next kin o same later is_next are are_kin named from = tt
told_read first second (Some c) at hands records next kin None same later is_next are are_kin named from = tt
told_read first second (Some c) at hands records next kin (Some read) same later is_next are are_kin named from =
    subst (IsReadWith c at hands) (sym from.1) (read_with c at hands records next kin from.0
    (if_same second (Some c) (λ d. AreRecordsAt d at records) later are) (if_same first (Some c) (λ d. IsNextAt d at hands next) (λ d told. same d (later d told)) is_next) are_kin named from.2)

pub hand_read : (at : ℕ) (records : Records) (next : ℕ) (kin : Kin) (o : Option Read) → IfSome o (IsReadOf at records next kin) → IfSome o (λ (x : Read). IsHandRead x.position x.job x.hand)
hand_read at records next kin None from = tt
hand_read at records next kin (Some read) from =
    subst (λ (x : Read). IsHandRead x.position x.job x.hand) (sym from.1) (record { id = refl; next = refl; depth = refl; entries = refl })
