-- One more file keeps a state lawful.
use Rattle.std.proofs.Common.{◌≡◌, ◌≤◌, ℕ, Bool, true, false, cond, List, [], length, Option, Some, None, refl, sym, ap, ◌∙◌, inl, inr, ◌⊎◌}
use Rattle.std.specs.Prelude.{bytes_eq}
use Rattle.std.specs.FinMap.{get-insert, get-empty, same_map, insert, get, empty, slice_cmp-IsAntisymmetric, nat_cmp-IsAntisymmetric}
use Rattle.std.specs.Ordering.{nat_cmp}
use Rattle.std.specs.Cmp.Lexicographic.{slice_cmp, texts_ties}
use Rattle.std.proofs.lemmas.Cmp.{nat_list_cmp_total}
use Rattle.std.proofs.lemmas.Slice.Eq.{bytes_eq-Decides}
use Rattle.mtn_model.specs.Table.{Table}
use Rattle.mtn_certs.specs.Certificates.{Certificate}
use Rattle.mtn_certs.specs.Order.{cert_cmp}
use Rattle.mtn_model.specs.State.{State, AreFiles, Holds, empty_state}
use Rattle.mtn_replay.specs.Files.{with_file}
use Rattle.mtn_replay.specs.Lawful.{Keeps, IsLawful}
use Rattle.mtn_replay.proofs.Histories.{history_none, history_kept}

-- what a map has at a key after an insert
pub get_inserted : (m : Table) (k b q : List ℕ) → get (insert m k b) q ≡ cond (bytes_eq q k) (Some b) (get m q)
get_inserted m k b q = get-insert nat_list_cmp_total m k b q ∙ ap (λ t. cond t (Some b) (get m q)) (sym (texts_ties q k))

-- a map that has a body under a key keeps it
held_at : (m : Table) (k b q : List ℕ) (t : Bool) → get m k ≡ Some b → (t ≡ true → q ≡ k) → cond t (Some b) (get m q) ≡ get m q
held_at m k b q true held same = sym (ap (get m) (same refl) ∙ held)
held_at m k b q false held same = refl

pub insert_held : (m : Table) (k b : List ℕ) → get m k ≡ Some b → insert m k b ≡ m
insert_held m k b held = same_map nat_list_cmp_total (slice_cmp-IsAntisymmetric nat_cmp-IsAntisymmetric) _ _
    (λ q. get_inserted m k b q ∙ held_at m k b q (bytes_eq q k) held (bytes_eq-Decides q k).0)

chosen : (t : Bool) (q k v b : List ℕ) (below : Option (List ℕ)) → (t ≡ true → q ≡ k) → cond t (Some v) below ≡ Some b → ((q ≡ k) × (v ≡ b)) ⊎ (below ≡ Some b)
chosen true q k v b below same e = let again : v ≡ b = cc in inl (same refl, again)
chosen false q k v b below same e = inr e

-- what is found after an insert is what was put, or was found before
pub found_more : (m : Table) (k v q b : List ℕ) → get (insert m k v) q ≡ Some b → ((q ≡ k) × (v ≡ b)) ⊎ (get m q ≡ Some b)
found_more m k v q b found = chosen (bytes_eq q k) q k v b (get m q) (bytes_eq-Decides q k).0 (sym (get_inserted m k v q) ∙ found)

-- one more file that is lawful
pub files_more : (f : List ℕ → List ℕ) (files : Table) (bytes : List ℕ) → AreFiles f files → length bytes ≤ 67108864 → AreFiles f (insert files (f bytes) bytes)
files_more f files bytes law small = record {
  sizes = λ id b found. elim (found_more files (f bytes) bytes id b found) [
    | inl new ↦ let small_new : length b ≤ 67108864 = rw (← new.1) small in small_new
    | inr old ↦ law.sizes id b old
  ];
  ids = λ id b found. elim (found_more files (f bytes) bytes id b found) [
    | inl new ↦ ap f (sym new.1) ∙ sym new.0
    | inr old ↦ law.ids id b old
  ];
}

-- a new file leaves every other
pub keeps_more : (files : Table) (id bytes : List ℕ) → get files id ≡ None → Keeps files (insert files id bytes)
keeps_more files id bytes none other held found = get_inserted files id bytes other ∙ past (bytes_eq other id) (bytes_eq-Decides other id).0
  where
    past : (t : Bool) → (t ≡ true → other ≡ id) → cond t (Some bytes) (get files other) ≡ Some held
    past true same = absurd (let both : Some held ≡ None = sym found ∙ ap (get files) (same refl) ∙ none in cc)
    past false same = found

pub lawful_more : (f : List ℕ → List ℕ) (s : State) (bytes : List ℕ) → IsLawful f s → get s.files (f bytes) ≡ None → length bytes ≤ 67108864 → IsLawful f (with_file f s bytes)
lawful_more f s bytes law none small = record {
  files = files_more f s.files bytes law.files small;
  history = law.history;
  log = history_kept f s.files (insert s.files (f bytes) bytes) s.log law.history (keeps_more s.files (f bytes) bytes none) law.log;
  certs = law.certs;
  spoken_of = law.spoken_of;
  keys = law.keys;
}

pub no_certificate : (c : Certificate) → Holds empty c → ⊥
no_certificate c held = let none : get (empty {X = Unit {0}} {R = cert_cmp}) c ≡ None = get-empty cert_cmp c in cc

pub empty_lawful : (f : List ℕ → List ℕ) → IsLawful f empty_state
empty_lawful f = record {
  files = record {
    sizes = λ id b found. absurd (none_there id b found);
    ids = λ id b found. absurd (none_there id b found);
  };
  history = [];
  log = history_none f empty;
  certs = record {
    lawful = λ c held. absurd (no_certificate c held);
    revisions = λ c held. absurd (no_certificate c held);
    keys = λ c held. absurd (no_certificate c held);
  };
  spoken_of = λ c held. absurd (no_certificate c held);
  keys = record {
    ids = λ id name found. absurd (none_there id name found);
    names = λ id name found. absurd (none_there id name found);
  };
}
  where
    none_there : (id b : List ℕ) → get (empty {X = List ℕ} {R = slice_cmp nat_cmp}) id ≡ Some b → ⊥
    none_there id b found = let none : get (empty {X = List ℕ} {R = slice_cmp nat_cmp}) id ≡ None = get-empty (slice_cmp nat_cmp) id in cc
