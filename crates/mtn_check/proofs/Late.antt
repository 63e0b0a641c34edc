-- The steps behind the walk along the log.
use Rattle.std.proofs.Common.{ℕ, List}
use Rattle.mtn_model.specs.Table.{Contents}
use Rattle.mtn_history.specs.declared.errors.Damage.{Damage}
use Rattle.mtn_check_laws.specs.Records.{AllKeep}
use Rattle.mtn_check_laws.specs.Fronts.{Front, IsFrontAt, StandsTo}
use Rattle.mtn_check_laws.specs.FirstDamage.{IsCertOf, IsNameRecord, in_certs, in_names, unplaced}
use Rattle.mtn_check.specs.Tables.{AllIn, IsBreakIn, IsFewOrKept, KeyRule}
use Rattle.mtn_check.specs.Steps.{ArePlaced, IsCertIn, IsLateDamage, IsRightBeside, IsTextOf, IsUnplaced, NameRule, PlaceRule}
use Rattle.mtn_check.proofs.Early.{break_in, keep_in}
use Rattle.mtn_check.proofs.Placing.{all_placed, cert_in, cert_of, log_breaks, roster_breaks, text_breaks}

-- what a walk along the log stands for, as the law says it
abbrev pub Walks : Type 0
Walks = (f : List ℕ → List ℕ) (c : Contents) (r : ℕ) (front : Front) → IsFrontAt f c r front → StandsTo f c r front

abbrev pub HasTexts : ℕ → Contents → Type 0
HasTexts n c = IsFewOrKept 3 n (IsTextOf c n) c

abbrev pub HasLog : ℕ → Contents → Type 0
HasLog n c = HasTexts n c × IsFewOrKept 4 n (PlaceRule n) c

abbrev pub HasNames : ℕ → Contents → Type 0
HasNames n c = ArePlaced n c × AllKeep IsNameRecord c

-- one rule for another of the same records
same_break : (t : ℕ) (one other : KeyRule) (c : Contents) (d : Damage) → ((k b : List ℕ) → one k b → other k b) → ((k b : List ℕ) → other k b → one k b) → IsBreakIn t one c d → IsBreakIn t other c d
same_break t one other c d to back b = record {
  key = b.key;
  body = b.body;
  shown = b.shown;
  held = b.held;
  broken = λ keeps. b.broken (back b.key b.body keeps);
  earlier = λ k x below at. to k x (b.earlier k x below at);
}

module _ (walks : Walks) (n : ℕ) (c : Contents) where
  pub text_damage : (d : Damage) → Unit {0} → IsBreakIn 3 (IsTextOf c n) c d → IsUnplaced n c d
  text_damage d u b f front at = text_breaks f c n front (walks f c n front at) d b

  pub log_damage : (d : Damage) → HasTexts n c → IsBreakIn 4 (PlaceRule n) c d → IsUnplaced n c d
  log_damage d so_far b f front at = log_breaks f c n front (walks f c n front at) d so_far b

  pub roster_damage : (d : Damage) → HasLog n c → IsBreakIn 5 (PlaceRule n) c d → IsUnplaced n c d
  roster_damage d so_far b f front at = roster_breaks f c n front (walks f c n front at) d so_far.0 so_far.1 b

  pub are_placed : HasLog n c → IsFewOrKept 5 n (PlaceRule n) c → ArePlaced n c
  are_placed so_far all f front at = all_placed f c n front (walks f c n front at) so_far.0 so_far.1 all

  pub place_damage : (d : Damage) → Unit {0} → IsUnplaced n c d → IsLateDamage n c d
  place_damage d u b f front walked = unplaced n front walked (b f front walked.positions)

  pub name_damage : (d : Damage) → ArePlaced n c → IsBreakIn 7 NameRule c d → IsLateDamage n c d
  name_damage d so_far b f front walked = in_names n front walked (so_far f front walked.positions) (break_in 7 NameRule c d b)

  pub cert_damage : (d : Damage) → HasNames n c → IsBreakIn 8 (IsCertIn c) c d → IsLateDamage n c d
  cert_damage d so_far b f front walked =
      let stands = walks f c n front walked.positions in
      let placed = so_far.0 f front walked.positions in
      in_certs n front walked placed so_far.1
      (break_in 8 (IsCertOf front) c d (same_break 8 (IsCertIn c) (IsCertOf front) c d (cert_of f c n front stands placed) (cert_in f c n front stands placed) b))

  pub right : HasNames n c → AllIn 8 (IsCertIn c) c → IsRightBeside n c
  right so_far all f front at =
      let stands = walks f c n front at in
      let placed = so_far.0 f front at in
      record { placed = placed; names = so_far.1; certs = keep_in 8 (IsCertOf front) c (λ k b there. cert_of f c n front stands placed k b (all k b there)) }
