-- The text of the field is the only one that can be there, and it is no path's.
use Rattle.std.proofs.Common.{◌≢◌, refl, sym, ◌∙◌, rules}
use Rattle.mtn_base.specs.Paths.{path_text}
use Rattle.mtn_base.specs.declared.path.PathError.{PathError}
use Rattle.mtn_base.specs.declared.path.PathError.TheVariants.{Empty, Dots, TooLong, BadByte, NoMemory}
use Rattle.mtn_records.proofs.PathRefused.{IsReal, refused_text}
use Rattle.mtn_records.specs.Apart.{field_apart}
use Rattle.mtn_records.proofs.names.PathField.read.Goals as goal

real : (e : PathError) → e ≢ NoMemory → IsReal e
real Empty other = tt
real Dots other = tt
real TooLong other = tt
real BadByte other = tt
real NoMemory other = absurd (other refl)

pub returns-in-Err : goal.returns-in-Err
returns-in-Err c = record {
  ok = tt;
  bad = λ is v r form e.
      let one = field_apart c.in-Some.text.now (path_text v) c.in-Some.rest.now r c.in-Some.ensures.formed form.1 (sym c.in-Some.ensures.whole ∙ e) in
      refused_text c.in-Err.error c.in-Some.text.now v (real c.in-Err.error (c.of_path.ensures (search rules))) c.in-Err.ensures.err form.0 one.0;
}
