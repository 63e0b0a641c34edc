-- The records of positions, and those that no position has.
use Rattle.std.specs.Prelude.{IsSome, is_some, slice_get}
use Rattle.std.proofs.Common.{◌≡◌, ◌<◌, ◌≤◌, ◌^◌, inl, inr, ⊎_elim, ℕ, true, List, [], ◌++◌, length, drop, Option, Some, None, refl, sym, ap, ◌∙◌, subst, arith}
use Rattle.mtn_history_laws.specs.History.{Revision}
use Rattle.mtn_model.specs.State.{Logged}
use Rattle.mtn_model.specs.Table.{Contents, body_at}
use Rattle.mtn_records.specs.Apart.{number_apart}
use Rattle.mtn_records.specs.Fields.{number_text, IsNumber}
use Rattle.mtn_records.specs.Records.{log_text}
use Rattle.mtn_records.specs.RecordsApart.{log_apart}
use Rattle.mtn_records.specs.declared.record.LogRecord.{LogRecord}
use Rattle.mtn_replay.proofs.Histories.{log_is_short}
use Rattle.mtn_replay.proofs.Places.{inside, within}
use Rattle.mtn_replay.specs.Texts.{text_under}
use Rattle.mtn_history.specs.Logs.{IsLogged}
use Rattle.mtn_history.specs.Revisions.{AreTexts}
use Rattle.mtn_history.proofs.TextLemmas.{text_found, text_missing}
use Rattle.mtn_history.specs.declared.errors.Damage.{Damage}
use Rattle.std.proofs.lemmas.List.{append-nil}
use Rattle.mtn_check_laws.specs.Records.{AllKeep, IsFirstBreak}
use Rattle.mtn_check_laws.specs.Fronts.{Front, StandsTo}
use Rattle.mtn_check_laws.specs.FirstDamage.{IsCertOf, IsPlacedIn}
use Rattle.mtn_check.specs.Tables.{AllIn, IsBreakIn, IsFewOrKept}
use Rattle.mtn_check.specs.Steps.{IsCertIn, IsTextOf, PlaceRule}
use Rattle.mtn_check.proofs.Others.{none_besides}
use Rattle.mtn_check.proofs.Numbers.{same_number}

one_body : (o : Option (List ℕ)) (a b : List ℕ) → o ≡ Some a → o ≡ Some b → a ≡ b
one_body o a b x y = cc

one_logged : (c : Contents) (r : ℕ) (a b : LogRecord) → IsLogged c r a → IsLogged c r b → a ≡ b
one_logged c r a b x y =
    let same : x.body ≡ y.body = one_body (body_at c 4 (number_text r)) x.body y.body x.held y.held in
    (log_apart a b [] [] x.text.formed y.text.formed (append-nil (log_text a) ∙ sym x.text.whole ∙ same ∙ y.text.whole ∙ sym (append-nil (log_text b)))).0

-- the id at a position, if it has a revision
abbrev id_in : Option Logged → List ℕ
id_in (Some l) = l.id
id_in None = []

abbrev id_at : Front → ℕ → List ℕ
id_at front q = id_in (slice_get front.log q)

small : (q n : ℕ) → q < n → n ≤ 2147483648 → q < 2 ^ 64
small q n lt le = omega (arith, lt, le)

-- the text of a revision of the log
abbrev pub HasText : Front → List ℕ → Type 0
HasText front key = (r : ℕ) × (l : Logged) × (slice_get front.log r ≡ Some l) × (l.id ≡ key)

module _ (f : List ℕ → List ℕ) (c : Contents) (n : ℕ) (front : Front) (stands : StandsTo f c n front) where
  -- a revision of the front, with its record of the log
  record LoggedAt (r : ℕ) (l : Logged) : Type 0 where
    entry : LogRecord
    logged : IsLogged c r entry
    same : entry.id.0 ≡ l.id

  logged_at : (r : ℕ) (l : Logged) → slice_get front.log r ≡ Some l → LoggedAt r l
  logged_at r l at =
      let lt : r < length front.log = inside front.log r l at in
      let v = within front.history r (omega (arith, lt, stands.spelled.long)) in
      let k = within front.kept r (omega (arith, lt, stands.spelled.long, stands.revisions.long)) in
      let body = stands.log r v.0 k.0 v.1 k.1 in
      let entry : LogRecord = record { id = v.0.id; next_node = k.0.next; parents = body.2.parents } in
      record {
        entry = entry;
        logged = record { body = body.0; held = body.1; text = body.2.text };
        same = ap (λ (x : Revision). x.id.0) (stands.spelled.each r l v.0 at v.1).made;
      }

  pub text_placed : (key body : List ℕ) → IsTextOf c n key body → HasText front key
  text_placed key body t =
      let l = within front.log t.place (omega (arith, t.below, stands.long)) in
      let own = logged_at t.place l.0 l.1 in
      let one : own.entry ≡ t.entry = one_logged c t.place own.entry t.entry own.logged t.logged in
      (t.place, l.0, l.1, sym own.same ∙ ap (λ (e : LogRecord). e.id.0) one ∙ t.same)

  pub text_told : (key body : List ℕ) → body_at c 3 key ≡ Some body → HasText front key → IsTextOf c n key body
  text_told key body at (r, l, there, same) =
      let own = logged_at r l there in
      let lt : r < length front.log = inside front.log r l there in
      record {
        place = r;
        rest = l.text;
        whole = one_body (body_at c 3 key) body (number_text r ++ l.text) at (ap (body_at c 3) (sym same) ∙ stands.texts r l there);
        below = omega (arith, lt, stands.long);
        entry = own.entry;
        logged = own.logged;
        same = own.same ∙ same;
      }

  abbrev At : List ℕ → Type 0
  At key = (r : ℕ) × (r < length front.history) × (key ≡ number_text r)

  place_in : (key body : List ℕ) → PlaceRule n key body → At key
  place_in key body (r, lt, is) = (r, omega (arith, lt, stands.long, stands.spelled.long), is)

  place_told : (key body : List ℕ) → At key → PlaceRule n key body
  place_told key body (r, lt, is) = (r, omega (arith, lt, stands.long, stands.spelled.long), is)

  -- ---- where a table has no more records than there are positions

  is_number : (q : ℕ) → q < n → IsNumber q
  is_number q lt = let short = log_is_short f (c 2) front.log front.history stands.spelled in small q n lt (omega (arith, short, stands.long))

  -- what stands at a position, and under its id
  record TextAt (q : ℕ) : Type 0 where
    revision : Logged
    there : slice_get front.log q ≡ Some revision
    same : id_at front q ≡ revision.id
    held : body_at c 3 (id_at front q) ≡ Some (number_text q ++ revision.text)

  text_at : (q : ℕ) → q < n → TextAt q
  text_at q lt =
      let l = within front.log q (omega (arith, lt, stands.long)) in
      let same : id_at front q ≡ l.0.id = ap id_in l.1 in
      record { revision = l.0; there = l.1; same = same; held = ap (body_at c 3) same ∙ stands.texts q l.0 l.1 }

  -- two positions have two ids, since the text under each names its own
  ids_apart : (q r : ℕ) → q < n → r < n → id_at front q ≡ id_at front r → q ≡ r
  ids_apart q r lt below e =
      let one = text_at q lt in
      let other = text_at r below in
      let same = one_body (body_at c 3 (id_at front q)) (number_text q ++ one.revision.text) (number_text r ++ other.revision.text) one.held (ap (body_at c 3) e ∙ other.held) in
      (number_apart q r one.revision.text other.revision.text (is_number q lt) (is_number r below) same).0

  pub all_texts : IsFewOrKept 3 n (IsTextOf c n) c → AllIn 3 (λ key body. HasText front key) c
  all_texts (inl few) key body at =
      let own = none_besides 3 n c (id_at front) (λ q lt. let t = text_at q lt in (number_text q ++ t.revision.text, t.held)) ids_apart few key body at in
      let text = text_at own.0 own.1 in
      (own.0, text.revision, text.there, sym text.same ∙ own.2)
  all_texts (inr kept) key body at = text_placed key body (kept key body at)

  all_at : (t : ℕ) → ((q : ℕ) → q < n → (body : List ℕ) × (body_at c t (number_text q) ≡ Some body)) → IsFewOrKept t n (PlaceRule n) c → AllIn t (λ key body. At key) c
  all_at t held (inl few) key body at =
      let own = none_besides t n c number_text held (λ q r lt below e. same_number q r (is_number q lt) (is_number r below) e) few key body at in
      place_in key body (own.0, own.1, sym own.2)
  all_at t held (inr kept) key body at = place_in key body (kept key body at)

  pub all_logged : IsFewOrKept 4 n (PlaceRule n) c → AllIn 4 (λ key body. At key) c
  all_logged = all_at 4 (λ q lt.
      let v = within front.history q (omega (arith, lt, stands.long, stands.spelled.long)) in
      let k = within front.kept q (omega (arith, lt, stands.long, stands.spelled.long, stands.revisions.long)) in
      let body = stands.log q v.0 k.0 v.1 k.1 in
      (body.0, body.1))

  pub all_rosters : IsFewOrKept 5 n (PlaceRule n) c → AllIn 5 (λ key body. At key) c
  all_rosters = all_at 5 (λ q lt.
      let v = within front.history q (omega (arith, lt, stands.long, stands.spelled.long)) in
      let k = within front.kept q (omega (arith, lt, stands.long, stands.spelled.long, stands.revisions.long)) in
      let body = stands.rosters q v.0 k.0 v.1 k.1 in
      (body.0, body.1))

  -- ---- what is asked of a record of these tables

  placed_by : (t : ℕ) (k b : List ℕ) → (t ≡ 3 → HasText front k) → (t ≡ 4 → At k) → (t ≡ 5 → At k) → IsPlacedIn front t k b
  placed_by t k b x y z = record { text = x; log = y; roster = z }

  in_table : (t u : ℕ) (k b : List ℕ) → t ≡ u → body_at c t k ≡ Some b → body_at c u k ≡ Some b
  in_table t u k b is at = subst (λ x. body_at c x k ≡ Some b) is at

  pub all_placed : IsFewOrKept 3 n (IsTextOf c n) c → IsFewOrKept 4 n (PlaceRule n) c → IsFewOrKept 5 n (PlaceRule n) c → AllKeep (IsPlacedIn front) c
  all_placed texts log rosters t k b at =
      placed_by t k b (λ is. all_texts texts k b (in_table t 3 k b is at)) (λ is. all_logged log k b (in_table t 4 k b is at)) (λ is. all_rosters rosters k b (in_table t 5 k b is at))

  pub text_breaks : (d : Damage) → IsBreakIn 3 (IsTextOf c n) c d → IsFirstBreak (IsPlacedIn front) c d
  text_breaks d b = record {
    table = 3;
    key = b.key;
    body = b.body;
    shown = b.shown;
    held = b.held;
    broken = λ placed. b.broken (text_told b.key b.body b.held (placed.text refl));
    earlier = λ t k x before at. placed_by t k x
        (λ is. ⊎_elim (λ lt. absurd (omega (arith, lt, is))) (λ r. text_placed k x (b.earlier k x r.1 (in_table t 3 k x is at))) before)
        (λ is. ⊎_elim (λ lt. absurd (omega (arith, lt, is))) (λ r. absurd (omega (arith, r.0, is))) before)
        (λ is. ⊎_elim (λ lt. absurd (omega (arith, lt, is))) (λ r. absurd (omega (arith, r.0, is))) before);
  }

  pub log_breaks : (d : Damage) → IsFewOrKept 3 n (IsTextOf c n) c → IsBreakIn 4 (PlaceRule n) c d → IsFirstBreak (IsPlacedIn front) c d
  log_breaks d texts b = record {
    table = 4;
    key = b.key;
    body = b.body;
    shown = b.shown;
    held = b.held;
    broken = λ placed. b.broken (place_told b.key b.body (placed.log refl));
    earlier = λ t k x before at. placed_by t k x
        (λ is. all_texts texts k x (in_table t 3 k x is at))
        (λ is. ⊎_elim (λ lt. absurd (omega (arith, lt, is))) (λ r. place_in k x (b.earlier k x r.1 (in_table t 4 k x is at))) before)
        (λ is. ⊎_elim (λ lt. absurd (omega (arith, lt, is))) (λ r. absurd (omega (arith, r.0, is))) before);
  }

  pub roster_breaks : (d : Damage) → IsFewOrKept 3 n (IsTextOf c n) c → IsFewOrKept 4 n (PlaceRule n) c → IsBreakIn 5 (PlaceRule n) c d → IsFirstBreak (IsPlacedIn front) c d
  roster_breaks d texts log b = record {
    table = 5;
    key = b.key;
    body = b.body;
    shown = b.shown;
    held = b.held;
    broken = λ placed. b.broken (place_told b.key b.body (placed.roster refl));
    earlier = λ t k x before at. placed_by t k x
        (λ is. all_texts texts k x (in_table t 3 k x is at))
        (λ is. all_logged log k x (in_table t 4 k x is at))
        (λ is. ⊎_elim (λ lt. absurd (omega (arith, lt, is))) (λ r. place_in k x (b.earlier k x r.1 (in_table t 5 k x is at))) before);
  }

  -- ---- certificates, where each text is placed

  module _ (placed : AllKeep (IsPlacedIn front) c) where
    are_texts : AreTexts front.log (c 3)
    are_texts = record { each = stands.texts; only = λ id body at. (placed 3 id body at).text refl }

    some_of : (o : Option (List ℕ)) → IsSome o → (x : List ℕ) × (o ≡ Some x)
    some_of (Some x) some = (x, refl)
    some_of None some = absurd cc

    some_is : (o : Option (List ℕ)) (x : List ℕ) → o ≡ Some x → IsSome o
    some_is o x e = ap is_some e

    spoken : (id : List ℕ) → IsSome (body_at c 3 id) → IsSome (text_under front.log id)
    spoken id some = let b = some_of (body_at c 3 id) some in some_is (text_under front.log id) (drop 8 b.0) (text_found front.log (c 3) id b.0 are_texts b.1).1

    held : (id : List ℕ) → IsSome (text_under front.log id) → IsSome (body_at c 3 id)
    held id some = by (body_at c 3 id) refl
      where
        by : (o : Option (List ℕ)) → body_at c 3 id ≡ o → IsSome (body_at c 3 id)
        by (Some x) is = some_is (body_at c 3 id) x is
        by None is = absurd (let none : text_under front.log id ≡ None = text_missing front.log (c 3) id are_texts is in let no = ap is_some none in let yes : is_some (text_under front.log id) ≡ true = some in cc)

    pub cert_of : (key body : List ℕ) → IsCertIn c key body → IsCertOf front key body
    cert_of key body i = record { cert = i.cert; is = i.is; spoken_of = spoken i.cert.revision.0 i.spoken_of; bare = i.bare }

    pub cert_in : (key body : List ℕ) → IsCertOf front key body → IsCertIn c key body
    cert_in key body o = record { cert = o.cert; is = o.is; spoken_of = held o.cert.revision.0 o.spoken_of; bare = o.bare }
