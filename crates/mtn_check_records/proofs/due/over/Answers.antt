-- The record that is due is the one that stands there, or another; or none is due.
use Rattle.std.specs.Prelude.{IfSome, not, bytes_eq}
use Rattle.std.proofs.Common.{◌≡◌, ◌∙◌, List, ℕ, Bool, true, false, Ok, refl, ap, sym, subst, inl, inr}
use Rattle.std.proofs.lemmas.Slice.Eq.{bytes_eq-Decides}
use Rattle.mtn_put_revision.specs.Keeping.{IsRecordOn, IsWrittenOn}
use Rattle.mtn_roster_deltas.specs.Numbering.{shown}
use Rattle.mtn_check_records.specs.Due.{IsNumberedBy}
use Rattle.mtn_check_records.proofs.due.over.Goals as goal

differ : (a b : List ℕ) (r : Bool) → r ≡ not (bytes_eq a b) → r ≡ true → a ≡ b → ⊥
differ a b r is ne e = let equal : not (bytes_eq a b) ≡ false = ap not ((bytes_eq-Decides a b).1 e) in cc

same_by : (a b : List ℕ) (t : Bool) → bytes_eq a b ≡ t → (r : Bool) → r ≡ not t → r ≡ false → a ≡ b
same_by a b true is r said equal = (bytes_eq-Decides a b).0 is
same_by a b false is r said equal = absurd cc

pub returns-in_default : goal.returns-in_default
returns-in_default c = inl (c.in_ok-entries.ensures.none (ap Ok c.in_default.is))

pub returns-in_default-2 : goal.returns-in_default-2
returns-in_default-2 c =
    let known = shown c.args.known.now.entries.now in
    let r = subst (λ o. IfSome o (λ r. IsNumberedBy c.args.stored.now known c.args.position.now.next r.0 r.1)) c.in-Some.is c.in_ok-entries.ensures.numbered in
    inr (record {
      entries = c.in-Some.entries;
      numbered = record { ascending = r.ascending; numbers = r.numbers; next = λ are. sym c.if-free-position.false ∙ r.next_free are };
      none = c.in_ok-written.ensures.none (ap Ok c.in_default-2.is);
    })

pub returns-then-ne : goal.returns-then-ne
returns-then-ne c =
    let known = shown c.args.known.now.entries.now in
    let r = subst (λ o. IfSome o (λ r. IsNumberedBy c.args.stored.now known c.args.position.now.next r.0 r.1)) c.in-Some.is c.in_ok-entries.ensures.numbered in
    let w = subst (λ o. IfSome o (IsWrittenOn c.args.known.now.places.now known c.args.known.now.depth c.in-Some.entries c.args.job.now.at)) c.in-Some-2.is c.in_ok-written.ensures.record in
    record {
      entries = c.in-Some.entries;
      numbered = record { ascending = r.ascending; numbers = r.numbers; next = λ are. sym c.if-free-position.false ∙ r.next_free are };
      body = c.in-Some-2.written.body;
      deep = c.in-Some-2.written.depth;
      written = w.0;
      other = λ e. differ c.as_slice.result.now c.as_slice-2.result.now c.ne.result c.ne.ensures c.if-ne.true (c.as_slice.ensures ∙ sym e ∙ sym c.as_slice-2.ensures.value);
    }

pub returns : goal.returns
returns c =
    let known = shown c.args.known.now.entries.now in
    let r = subst (λ o. IfSome o (λ r. IsNumberedBy c.args.stored.now known c.args.position.now.next r.0 r.1)) c.in-Some.is c.in_ok-entries.ensures.numbered in
    let w = subst (λ o. IfSome o (IsWrittenOn c.args.known.now.places.now known c.args.known.now.depth c.in-Some.entries c.args.job.now.at)) c.in-Some-2.is c.in_ok-written.ensures.record in
    let same : c.as_slice.result.now ≡ c.as_slice-2.result.now = same_by c.as_slice.result.now c.as_slice-2.result.now (bytes_eq c.as_slice.result.now c.as_slice-2.result.now) refl c.ne.result c.ne.ensures c.if-ne.false in
    record {
      entries = c.in-Some.entries;
      numbered = record { ascending = r.ascending; numbers = r.numbers; next = λ are. sym c.if-free-position.false ∙ r.next_free are };
      deep = c.in-Some-2.written.depth;
      written = subst (λ (b : List ℕ). IsRecordOn c.args.known.now.places.now known c.args.known.now.depth c.in-Some.entries c.args.job.now.at b c.in-Some-2.written.depth) (sym c.as_slice.ensures ∙ same ∙ c.as_slice-2.ensures.value) w.0;
    }
