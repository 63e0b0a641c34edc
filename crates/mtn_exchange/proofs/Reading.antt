-- What each packet of an export does to a state that reads it.
use Rattle.std.specs.Prelude.{bytes_eq, is_none, nat_le, nat_lt, Contains, IsSome, slice_get}
use Rattle.std.specs.FinMap.{get, insert}
use Rattle.std.proofs.Common.{◌≡◌, ◌≤◌, ◌+◌, ◌⊎◌, ℕ, suc, Bool, true, false, cond, List, [], ◌∷◌, ◌++◌, length, take, Option, Some, None, refl, sym, ap, ◌∙◌, subst, ⊎_elim, inl, inr, arith}
use Rattle.std.proofs.lemmas.Bool.Decides.{nat_tests}
use Rattle.std.proofs.lemmas.List.Elements.{Contains-append_left, Contains-push, Contains-push_cases}
use Rattle.std.proofs.lemmas.Slice.Eq.{bytes_eq-Decides}
use Rattle.mtn_base.specs.Hex.{id_of}
use Rattle.mtn_base.specs.declared.id.Id.{Id}
use Rattle.mtn_base.specs.declared.limits.TheConstants.{MAX_TEXT}
use Rattle.mtn_base.specs.declared.refusal.Cause.TheVariants.{Collision, TextTooLong, UnknownRevision}
use Rattle.mtn_certs.specs.Certificates.{Certificate}
use Rattle.mtn_changes.specs.declared.change.Revision.{Revision as Spelled}
use Rattle.mtn_exports.specs.Exports.{cert_packet}
use Rattle.mtn_imports.specs.Imports.{Reads, ReadsFrom, cert_refusal, kept, one_new, too_long, unknown_revision}
use Rattle.mtn_model.specs.State.{Holds, Logged, State}
use Rattle.mtn_packets.specs.declared.packet.Packet.{Packet}
use Rattle.mtn_packets.specs.declared.packet.Packet.TheVariants as packet
use Rattle.mtn_packets.specs.declared.packet.PacketKey.TheVariants as key
use Rattle.mtn_renaming.proofs.Elements.{contains_at}
use Rattle.mtn_replay.specs.Accepting.{logged_beside, refusal_beside}
use Rattle.mtn_replay.specs.Files.{collision, file_refusal, with_file}
use Rattle.mtn_replay.specs.Lawful.{IsLawful, Spells}
use Rattle.mtn_replay.specs.Making.{made, refusal_of}
use Rattle.mtn_replay.specs.Texts.{text_under}
use Rattle.mtn_replay.proofs.CertLemmas.{lawful_cert, lawful_text}
use Rattle.mtn_replay.proofs.FileLemmas.{found_more, get_inserted, insert_held, lawful_more}
use Rattle.mtn_replay.proofs.Steps.{join_none}
use Rattle.mtn_exchange.proofs.Fronts.{front_more}
use Rattle.mtn_exchange.proofs.Counting.{new_from, new_of}
use Rattle.mtn_exchange.proofs.Joining.{after, beside}
use Rattle.mtn_exchange.proofs.Texts.{logged, next_of, text_from}

-- ---- packets that are all read

-- packets are read with no refusal, whatever their numbers
abbrev pub ReadsTo : (List ℕ → List ℕ) → State → List Packet → State → Type 0
ReadsTo f u ps v = (number : ℕ) → ReadsFrom f number u ps None v (new_from u ps)

abbrev pub ReadsOne : (List ℕ → List ℕ) → State → Packet → Type 0
ReadsOne f u p = Reads f u p None (after u p) (new_of u p)

pub read_none : (f : List ℕ → List ℕ) (u : State) → ReadsTo f u [] u
read_none f u number = (refl, refl, refl)

pub read_more : (f : List ℕ → List ℕ) (u v : State) (p : Packet) (ps : List Packet) → ReadsOne f u p → ReadsTo f (after u p) ps v → ReadsTo f u (p ∷ ps) v
read_more f u v p ps one rest number = (None, after u p, new_of u p, one, (new_from (after u p) ps, rest (number + 1), refl))

-- ---- the state so far

-- A state on the way from t: it has what t has, and of s the revisions that are known, those before a position that were sent, and
-- these files
pub record IsOnTheWay (f : List ℕ → List ℕ) (s t : State) (Known Sent : Id → Type 0) (low : ℕ) (before : List Id) (u : State) : Type 0 where
  pub law : IsLawful f u
  pub known : (l : Logged) → Contains s.log l → Known (id_of l.id) → Contains u.log l
  pub sent : (l : Logged) → Contains (take low s.log) l → Sent (id_of l.id) → Contains u.log l
  pub texts : (l : Logged) → Contains u.log l → Contains t.log l ⊎ Contains s.log l
  pub held : (x : Id) → Contains before x → get u.files x.0 ≡ get s.files x.0
  pub files : (id bytes : List ℕ) → get u.files id ≡ Some bytes → (get t.files id ≡ Some bytes) ⊎ (get s.files id ≡ Some bytes)

-- ---- a file

-- the same bytes, or none, do not collide
no_collision : (id bytes : List ℕ) (o : Option (List ℕ)) → ((held : List ℕ) → o ≡ Some held → held ≡ bytes) → collision o id bytes ≡ None
no_collision id bytes None same = refl
no_collision id bytes (Some held) same = ap (λ b. cond b None (Some (Collision (id_of id)))) ((bytes_eq-Decides held bytes).1 (same held refl))

small_file : (f : List ℕ → List ℕ) (u : State) (bytes : List ℕ) → length bytes ≤ 67108864 → collision (get u.files (f bytes)) (f bytes) bytes ≡ None → file_refusal f u bytes ≡ None
small_file f u bytes small fine = by (nat_lt 67108864 (length bytes)) refl
  where
    by : (t : Bool) → nat_lt 67108864 (length bytes) ≡ t → cond t (Some (TextTooLong (length bytes))) (collision (get u.files (f bytes)) (f bytes) bytes) ≡ None
    by true long = absurd (grind (arith, nat_tests))
    by false short = fine

lawful_held : (f : List ℕ → List ℕ) (s : State) (bytes : List ℕ) → IsLawful f s → (o : Option (List ℕ)) → get s.files (f bytes) ≡ o → ((held : List ℕ) → o ≡ Some held → held ≡ bytes) → length bytes ≤ 67108864 → IsLawful f (with_file f s bytes)
lawful_held f s bytes law None none same small = lawful_more f s bytes law none small
lawful_held f s bytes law (Some held) some same small =
    let kept = insert_held s.files (f bytes) bytes (some ∙ ap Some (same held refl)) in
    let back : s.files ≡ insert s.files (f bytes) bytes = sym kept in
    subst (IsLawful f) (λ i. record s { files = back i }) law

module _ (f : List ℕ → List ℕ) (s t : State) (Known Sent : Id → Type 0) (low : ℕ) (before : List Id) (u : State) (way : IsOnTheWay f s t Known Sent low before u) where
  module _ (ls : IsLawful f s) (x : Id) (bytes : List ℕ) (at : get s.files x.0 ≡ Some bytes) (other : (held : List ℕ) → get t.files x.0 ≡ Some held → held ≡ bytes) where
    named_by : f bytes ≡ x.0
    named_by = ls.files.ids x.0 bytes at

    same_bytes : (held : List ℕ) → get u.files (f bytes) ≡ Some held → held ≡ bytes
    same_bytes held is = ⊎_elim
        (λ e. other held (ap (get t.files) (sym named_by) ∙ e))
        (λ e. let both : Some held ≡ Some bytes = sym e ∙ ap (get s.files) named_by ∙ at in cc)
        (way.files (f bytes) held is)

    made_file : with_file f u bytes ≡ after u (packet.File x bytes)
    made_file = ap (λ (k : List ℕ). record u { files = insert u.files k bytes }) named_by

    pub file_reads : ReadsOne f u (packet.File x bytes)
    file_reads = (
      sym (small_file f u bytes (ls.files.sizes x.0 bytes at) (no_collision (f bytes) bytes (get u.files (f bytes)) same_bytes)),
      sym made_file,
      ap (λ (k : List ℕ). kept (one_new (get u.files k)) 0 0) (sym named_by),
    )

    now_held : (y : Id) (b : Bool) → bytes_eq y.0 x.0 ≡ b → Contains before y ⊎ (x ≡ y) → cond b (Some bytes) (get u.files y.0) ≡ get s.files y.0
    now_held y true is c = sym at ∙ ap (get s.files) (sym ((bytes_eq-Decides y.0 x.0).0 is))
    now_held y false is c = ⊎_elim (λ d. way.held y d) (λ e. absurd (let t : true ≡ false = sym ((bytes_eq-Decides y.0 x.0).1 (ap (λ (i : Id). i.0) (sym e))) ∙ is in cc)) c

    pub file_way : IsOnTheWay f s t Known Sent low (before ++ x ∷ []) (after u (packet.File x bytes))
    file_way = record {
      law = subst (IsLawful f) made_file (lawful_held f u bytes way.law (get u.files (f bytes)) refl same_bytes (ls.files.sizes x.0 bytes at));
      known = way.known;
      sent = way.sent;
      texts = way.texts;
      held = λ y c. get_inserted u.files x.0 bytes y.0 ∙ now_held y (bytes_eq y.0 x.0) refl (Contains-push_cases before x y c);
      files = λ id b found. elim (found_more u.files x.0 bytes id b found) [
        | inl new ↦ inr (ap (get s.files) new.0 ∙ at ∙ ap Some new.1)
        | inr old ↦ way.files id b old
      ];
    }

  -- ---- a certificate

  module _ (ls : IsLawful f s) (c : Certificate) (held : Holds s.certs c) (there : IsSome (text_under u.log c.revision.0)) where
    short_part : (text : List ℕ) → length text ≤ MAX_TEXT → too_long text ≡ None
    short_part text le = by (nat_le (length text) 67108864) refl
      where
        by : (b : Bool) → nat_le (length text) 67108864 ≡ b → cond b None (Some (TextTooLong (length text))) ≡ None
        by true is = refl
        by false is = absurd (grind (arith, nat_tests))

    is_known : (o : Option (List ℕ)) → IsSome o → cond (is_none o) (Some (UnknownRevision c.revision)) None ≡ None
    is_known None is = absurd cc
    is_known (Some text) is = refl

    cert_fine : cert_refusal u c.revision (key.Id c.key) (Some c.key) c.value c.signature ≡ None
    cert_fine =
        let lawful = ls.certs.lawful c held in
        join_none (too_long c.value) _ (short_part c.value lawful.value) (join_none (too_long c.signature) _ (short_part c.signature lawful.signature)
        (join_none (unknown_revision u c.revision) _ (is_known (text_under u.log c.revision.0) there) refl))

    pub cert_reads : ReadsOne f u (cert_packet c)
    cert_reads = (Some c.key, refl, sym cert_fine, refl, refl)

    pub cert_way : IsOnTheWay f s t Known Sent low before (after u (cert_packet c))
    cert_way = record {
      law = lawful_cert f u c way.law (ls.certs.lawful c held) (ls.certs.revisions c held) (ls.certs.keys c held) there;
      known = way.known;
      sent = way.sent;
      texts = way.texts;
      held = way.held;
      files = way.files;
    }

  -- ---- a revision

  -- s has the text at k under the id that it is given, and reads it so
  module _ (k : ℕ) (id : Id) (text : List ℕ) (r : Spelled) (at : slice_get s.log k ≡ Some (logged id.0 text)) (name : f text ≡ id.0) (short : length text ≤ 67108864) (spells : Spells text r)
      (early : (l : Logged) → Contains (take k s.log) l → Sent (id_of l.id) → Contains u.log l)
      (same : (held : List ℕ) → text_under u.log (f text) ≡ Some held → held ≡ text)
      (fine : text_under u.log (f text) ≡ None → refusal_of f u.files way.law.history (id_of (f text)) r ≡ None) where
    abbrev one : Logged
    one = logged id.0 text

    abbrev new : Logged
    new = logged (f text) text

    as_named : new ≡ one
    as_named = ap (λ (i : List ℕ). logged i text) name

    unrefused : (o : Option (List ℕ)) → text_under u.log (f text) ≡ o → refusal_beside o f u.files way.law.history text r ≡ None
    unrefused None none = fine none
    unrefused (Some held) some = ap (λ b. cond b None (Some (Collision (id_of (f text))))) ((bytes_eq-Decides held text).1 (same held some))

    beside_named : (o : Option (List ℕ)) → logged_beside o f u text ≡ beside o u (id_of (f text)) text
    beside_named None = refl
    beside_named (Some held) = refl

    leads_to : logged_beside (text_under u.log (f text)) f u text ≡ after u (packet.Revision id text)
    leads_to = beside_named (text_under u.log (f text)) ∙ ap (λ (i : List ℕ). beside (text_under u.log i) u (id_of i) text) name

    pub text_reads : ReadsOne f u (packet.Revision id text)
    text_reads = (
      inr (inr (record {
        short = short;
        read = r;
        spells = spells;
        history = way.law.history;
        spelled = way.law.log;
        is = sym (unrefused (text_under u.log (f text)) refl);
        after = sym leads_to;
      })),
      ap (λ (i : List ℕ). kept 0 (one_new (text_under u.log i)) 0) (sym name),
    )

    -- the revisions of s up to this one are held
    up_to : (log : List Logged) → ((l : Logged) → Contains u.log l → Contains log l) → Contains log one → (l : Logged) → Contains (take (suc k) s.log) l → Sent (id_of l.id) → Contains log l
    up_to log more own l c a = ⊎_elim (λ d. more l (early l d a)) (λ e. subst (Contains log) e own) (Contains-push_cases (take k s.log) one l (subst (λ ls. Contains ls l) (front_more s.log k one at) c))

    way_by : (o : Option (List ℕ)) → text_under u.log (f text) ≡ o → IsOnTheWay f s t Known Sent (suc k) before (logged_beside o f u text)
    way_by None none = record {
      law = lawful_text f u way.law.history new (made way.law.history (id_of (f text)) r.edges) way.law way.law.log (next_of f u way.law.history text r way.law.log short spells none (fine none));
      known = λ l c a. Contains-append_left u.log (new ∷ []) l (way.known l c a);
      sent = up_to (u.log ++ new ∷ []) (λ l c. Contains-append_left u.log (new ∷ []) l c) (subst (Contains (u.log ++ new ∷ [])) as_named (Contains-push u.log new));
      texts = λ l c. ⊎_elim (λ d. way.texts l d) (λ e. inr (subst (Contains s.log) (sym as_named ∙ e) (contains_at s.log k one at))) (Contains-push_cases u.log new l c);
      held = way.held;
      files = way.files;
    }
    way_by (Some held) some = record {
      law = way.law;
      known = way.known;
      sent = up_to u.log (λ l c. c) (subst (Contains u.log) ((λ i. logged (name i) (same held some i))) (text_from u.log (f text) held some));
      texts = way.texts;
      held = way.held;
      files = way.files;
    }

    pub text_way : IsOnTheWay f s t Known Sent (suc k) before (after u (packet.Revision id text))
    text_way = subst (IsOnTheWay f s t Known Sent (suc k) before) leads_to (way_by (text_under u.log (f text)) refl)
