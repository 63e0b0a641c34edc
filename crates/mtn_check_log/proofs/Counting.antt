-- What is shown counts its revisions; and what is under it stays where what is shown stays.
use Rattle.std.specs.Prelude.{IfSome, false, option_map}
use Rattle.std.proofs.Common.{◌≡◌, ◌<◌, ◌^◌, ℕ, Option, Some, None, refl, sym, ap, ◌∙◌, subst}
use Rattle.std.proofs.lemmas.Nat.{from_be_bytes-to_be_bytes_8}
use Rattle.mtn_model.specs.Table.{Contents}
use Rattle.mtn_ports.specs.Kept.{Same, Stays}
use Rattle.mtn_records.specs.Fields.{number_text}
use Rattle.mtn_history.specs.Meta.{Counted, IsMetaOf, count_key, version_key}
use Rattle.mtn_check_log.specs.Below.{below, told_below}
use Rattle.mtn_check_log.proofs.Showing.{meta_count, meta_version}

counted_below : (r : ℕ) (c : Contents) → r < 2 ^ 64 → Counted (below r c) r
counted_below r c fits = record {
  body = number_text r;
  held = meta_count r count_key refl refl;
  eight = refl;
  number = sym (from_be_bytes-to_be_bytes_8 r fits);
  version = meta_version r version_key refl;
}

pub told_counted : (told : Option Contents) (r at : ℕ) → at < 2 ^ 64 → at ≡ r → IfSome (option_map (below r) told) (λ c. IsMetaOf c (record { count = at; is_new = false }))
told_counted None r at fits same = tt
told_counted (Some c) r at fits same = subst (λ n. Counted (below n c) at) same (counted_below at c fits)

pub stays_under : {K : Type 0} (contents : K → Option Contents) (leaves : K → Contents → Type 0) (faults : K → ℕ) (r : ℕ) (old new : K) →
    Stays (told_below contents r) leaves faults old new → Same (contents old) (contents new) → Stays contents leaves faults old new
stays_under contents leaves faults r old new shown same = record {
  same = same;
  crash = λ d at e left. shown.crash (below r d) (ap (option_map (below r)) at) e left;
  later = shown.later;
}

pub told_end : {K : Type 0} (contents : K → Option Contents) (x y : K) (d : Contents) → x ≡ y → contents y ≡ Some d → contents x ≡ Some d
told_end contents x y d same at = ap contents same ∙ at
