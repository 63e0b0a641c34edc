-- The table of places while the log grows by an entry.
use Rattle.std.specs.Prelude.{Contains, slice_get}
use Rattle.std.proofs.Common.{◌≡◌, ℕ, zero, suc, ◌<◌, ◌≤◌, List, [], ◌∷◌, ◌++◌, ◌⊎◌, Bool, true, false, cond, length, Option, Some, None, IfSome, get_or, refl, sym, ◌∙◌, ap, inl, inr, arith, subst, ⊎_elim, nat_eq, length-append}
use Rattle.std.proofs.Math.Decide.{ℕ_discrete}
use Rattle.std.proofs.lemmas.Option.{slice_get_past, slice_get-get_or}
use Rattle.std.proofs.lemmas.Slice.Eq.{bytes_eq-Decides}
use Rattle.std.proofs.lemmas.Bool.{false≢true}
use Rattle.std.specs.Cmp.Lexicographic.{pointwise}
use Rattle.std.specs.declared.hash.FoldHasher.{FoldHasher}
use Rattle.std.specs.declared.hash.BuildHasherDefault.{BuildHasherDefault}
use Rattle.std.specs.HashMap.{get, HashMap}
use Rattle.mtn_base.specs.declared.id.Id.{Id}
use Rattle.mtn_ancestry.specs.declared.pos.LogEntry.{LogEntry}
use Rattle.mtn_ancestry.specs.Ancestors.{ParentsAreEarlier}
use Rattle.mtn_ancestry.specs.Log.{list_of, entry_parents, parents_of, id_at, IsLog}
use Rattle.mtn_ancestry.specs.Places.{HasPlaces}
use Rattle.mtn_ancestry.proofs.Members.{Contains-nil}

pub get_before : {X : Type 0} (xs : List X) (e : X) (r : ℕ) → r < length xs → slice_get (xs ++ e ∷ []) r ≡ slice_get xs r
get_before [] e r h = absurd (omega (arith, h))
get_before (x ∷ xs) e zero h = refl
get_before (x ∷ xs) e (suc r) h = get_before xs e r (omega arith)

pub get_last : {X : Type 0} (xs : List X) (e : X) → slice_get (xs ++ e ∷ []) (length xs) ≡ Some e
get_last [] e = refl
get_last (x ∷ xs) e = get_last xs e

pub get_after : {X : Type 0} (xs : List X) (e : X) (r : ℕ) → length xs < r → slice_get (xs ++ e ∷ []) r ≡ None
get_after xs e r h = slice_get_past (xs ++ e ∷ []) r (omega (arith, length-append xs (e ∷ [])))

-- r is an old place, the new one, or none
places : (log : List LogEntry) (r : ℕ) → (r < length log) ⊎ ((r ≡ length log) ⊎ (length log < r))
places log r = three (ℕ_discrete r (length log)) (before r (length log))
  where
    before : (a b : ℕ) → (a < b) ⊎ (b ≤ a)
    before zero zero = inr (omega arith)
    before zero (suc b) = inl (omega arith)
    before (suc a) zero = inr (omega arith)
    before (suc a) (suc b) = ⊎_elim (λ h. inl (omega arith)) (λ h. inr (omega arith)) (before a b)

    three : {a b : ℕ} → Dec (a ≡ b) → (a < b) ⊎ (b ≤ a) → (a < b) ⊎ ((a ≡ b) ⊎ (b < a))
    three (yes e) s = inr (inl e)
    three (no n) s = ⊎_elim inl (λ h. inr (inr (omega arith))) s

pub push_earlier : (log : List LogEntry) (e : LogEntry) → ParentsAreEarlier (parents_of log) →
    ((p : ℕ) → Contains (list_of e.parents) p → p < length log) → ParentsAreEarlier (parents_of (log ++ e ∷ []))
push_earlier log e early known r p c =
    ⊎_elim (λ h. early r p (subst (λ o. Contains (entry_parents o) p) (get_before log e r h) c))
    (⊎_elim (λ h. subst (λ n. p < n) (sym h) (known p (subst (λ o. Contains (entry_parents o) p) (ap (slice_get (log ++ e ∷ [])) h ∙ get_last log e) c)))
    (λ h. absurd (Contains-nil (subst (λ o. Contains (entry_parents o) p) (get_after log e r h) c))))
    (places log r)

pub id_last : (log : List LogEntry) (e : LogEntry) → id_at (log ++ e ∷ []) (length log) ≡ Some e.id
id_last log e = rw get_last refl

pub id_before : (log : List LogEntry) (e : LogEntry) (r : ℕ) → r < length log → id_at (log ++ e ∷ []) r ≡ id_at log r
id_before log e r h = rw (get_before log e r h) refl

pub id_after : (log : List LogEntry) (e : LogEntry) (r : ℕ) → length log < r → id_at (log ++ e ∷ []) r ≡ None
id_after log e r h = rw (get_after log e r h) refl

pub id_within : (log : List LogEntry) (r : ℕ) (id : Id) → id_at log r ≡ Some id → r < length log
id_within [] r id e = cc
id_within (x ∷ log) zero id e = omega arith
id_within (x ∷ log) (suc r) id e = omega (arith, id_within log r id e)

abbrev pub Table : Type 0
Table = HashMap (List ℕ) ℕ (BuildHasherDefault FoldHasher)

abbrev pub place_in : Table → List ℕ → Option ℕ
place_in m q = get (pointwise nat_eq) m q

pub places_kept : (log log' : List LogEntry) (m n : Table) → HasPlaces log m → log' ≡ log → n.entries ≡ m.entries → HasPlaces log' n
places_kept log log' m n h e f =
    let same : (q : List ℕ) → place_in n q ≡ place_in m q = λ q. rw f refl in
    subst (λ l. HasPlaces l n) (sym e) (record {
      earlier = h.earlier;
      known = λ id at g. h.known id at (sym (same id.0) ∙ g);
      listed = λ id at g. same id.0 ∙ h.listed id at g;
    })

pub places_pushed : (log log' : List LogEntry) (e : LogEntry) (m n : Table) → HasPlaces log m → log' ≡ log ++ e ∷ [] →
    ((r : ℕ) → ¬ (id_at log r ≡ Some e.id)) → ((p : ℕ) → Contains (list_of e.parents) p → p < length log) →
    ((q : List ℕ) → place_in n q ≡ cond (pointwise nat_eq e.id.0 q) (Some (length log)) (place_in m q)) → HasPlaces log' n
places_pushed log log' e m n h is fresh below now =
    subst (λ l. HasPlaces l n) (sym is) (record {
      earlier = push_earlier log e h.earlier below;
      known = λ id at g. known id at (pointwise nat_eq e.id.0 id.0) refl (sym (now id.0) ∙ g);
      listed = λ id at g. ⊎_elim
          (λ k. let old : id_at log at ≡ Some id = sym (id_before log e at k) ∙ g in now id.0 ∙ other id at old (pointwise nat_eq e.id.0 id.0) refl ∙ h.listed id at old)
          (⊎_elim (λ k. let last : id_at (log ++ e ∷ []) at ≡ Some e.id = ap (id_at (log ++ e ∷ [])) k ∙ id_last log e in
          let same : e.id ≡ id = cc in now id.0 ∙ here id same (pointwise nat_eq e.id.0 id.0) refl ∙ ap Some (sym k))
          (λ k. let none = id_after log e at k in cc))
          (places log at);
    })
  where
    bytes : (id : Id) → pointwise nat_eq e.id.0 id.0 ≡ true → e.id ≡ id
    bytes id t = ap (λ (xs : List ℕ). let i : Id = record { 0 = xs } in i) ((bytes_eq-Decides e.id.0 id.0).0 t)

    known : (id : Id) (at : ℕ) (b : Bool) → pointwise nat_eq e.id.0 id.0 ≡ b → cond b (Some (length log)) (place_in m id.0) ≡ Some at → id_at (log ++ e ∷ []) at ≡ Some id
    known id at true t g = let k : length log ≡ at = cc in ap (id_at (log ++ e ∷ [])) (sym k) ∙ id_last log e ∙ ap Some (bytes id t)
    known id at false t g = let old = h.known id at g in id_before log e at (id_within log at id old) ∙ old

    other : (id : Id) (at : ℕ) → id_at log at ≡ Some id → (b : Bool) → pointwise nat_eq e.id.0 id.0 ≡ b → cond b (Some (length log)) (place_in m id.0) ≡ place_in m id.0
    other id at old true t = absurd (fresh at (old ∙ ap Some (sym (bytes id t))))
    other id at old false t = refl

    here : (id : Id) → e.id ≡ id → (b : Bool) → pointwise nat_eq e.id.0 id.0 ≡ b → cond b (Some (length log)) (place_in m id.0) ≡ Some (length log)
    here id same true t = refl
    here id same false t = absurd (false≢true (sym t ∙ (bytes_eq-Decides e.id.0 id.0).1 (ap (λ (i : Id). i.0) same)))

pub log_from_places : (log : List LogEntry) (m : Table) → HasPlaces log m → IsLog log
log_from_places log m h = record {
  earlier = h.earlier;
  once = λ id r q a b. let x = h.listed id r a in let y = h.listed id q b in cc;
}

pub found_place : (log : List LogEntry) (m : Table) → HasPlaces log m → (id : Id) (o : Option ℕ) → place_in m id.0 ≡ o → IfSome o (λ at. id_at log at ≡ Some id)
found_place log m h id None e = tt
found_place log m h id (Some at) e = h.known id at e

pub parents_read : (log : List LogEntry) (r : ℕ) (d : LogEntry) → r < length log → parents_of log r ≡ list_of (get_or log r d).parents
parents_read log r d h = ap entry_parents (slice_get-get_or log r d h)

pub parents_within : (log : List LogEntry) (r p : ℕ) → Contains (parents_of log r) p → r < length log
parents_within log r p c = ⊎_elim (λ h. h)
    (λ s. absurd (Contains-nil (subst (λ o. Contains (entry_parents o) p) (slice_get_past log r (⊎_elim (λ e. omega arith) (λ h. omega arith) s)) c)))
    (places log r)
