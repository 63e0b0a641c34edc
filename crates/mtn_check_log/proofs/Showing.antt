-- What is told of what is shown.
use Rattle.std.specs.Prelude.{bytes_eq, IfSome, IfOk, OnOk, option_map}
use Rattle.std.specs.FinMap.{get, insert, empty, get-empty, get-insert}
use Rattle.std.specs.Cmp.Lexicographic.{slice_cmp, texts_ties}
use Rattle.std.specs.Ordering.{nat_cmp}
use Rattle.std.proofs.lemmas.Cmp.{nat_list_cmp_total}
use Rattle.std.proofs.Common.{◌⊎◌, inl, inr, eqb, ◌≡◌, ◌<◌, ◌≤◌, ◌^◌, ◌&&◌, ℕ, Bool, true, false, cond, List, [], take, Option, Some, None, Result, Ok, Err, refl, sym, ap, ◌∙◌, subst, arith}
use Rattle.std.proofs.lemmas.Bool.{ne_eqb}
use Rattle.mtn_model.specs.Table.{Contents, Table, body_at, no_table}
use Rattle.mtn_ports.specs.Kept.{AreKeyed, IsBody, Same, Stays}
use Rattle.mtn_records.specs.Fields.{Begins, BeginsWithNone, number_text, IsNumber}
use Rattle.mtn_check_log.specs.Below.{below, has_id_at, is_position, is_text_of, told_below}
use Rattle.mtn_history.specs.Meta.{count_key, meta_of, version, version_key}
use Rattle.mtn_check_log.proofs.Keys.{body_by, none_either, text_missing, text_shown, kept_key, front_is, front_none, high_position, position_of}

pub map_told : (told : Option Contents) (P Q : Contents → Type 0) → ((c : Contents) → P c → Q c) → IfSome told P → IfSome told Q
map_told None P Q f p = tt
map_told (Some c) P Q f p = f c p

-- a fact of the records as they were told before and one of them as they are told now
pub both_told : (old new : Option Contents) (P Q R : Contents → Type 0) → Same old new → ((c : Contents) → P c → Q c → R c) → IfSome old P → IfSome new Q → IfSome new R
both_told old None P Q R same f p q = tt
both_told old (Some c) P Q R same f p q = f c (subst (λ o. IfSome o P) (same c refl) p) q

-- table 1
inserted : (t : Table) (k v q : List ℕ) → get (insert t k v) q ≡ cond (bytes_eq q k) (Some v) (get t q)
inserted t k v q = get-insert nat_list_cmp_total t k v q ∙ ap (λ b. cond b (Some v) (get t q)) (sym (texts_ties q k))

pub meta_get : (r : ℕ) (q : List ℕ) → get (meta_of version r) q ≡ cond (bytes_eq q version_key) (Some version) (cond (bytes_eq q count_key) (Some (number_text r)) None)
meta_get r q = inserted (insert empty count_key (number_text r)) version_key version q
    ∙ ap (λ o. cond (bytes_eq q version_key) (Some version) o) (inserted empty count_key (number_text r) q
    ∙ ap (λ o. cond (bytes_eq q count_key) (Some (number_text r)) o) (get-empty (slice_cmp nat_cmp) q))

-- table 3
pub told_missing : (told : Option Contents) (r : ℕ) (id out : List ℕ) (found : Bool) → IfSome told (λ c. IsBody (body_at c 3 id) found out) → found ≡ false →
    IfSome told (λ c. body_at (below r c) 3 id ≡ None)
told_missing told r id out found is none = map_told told (λ c. IsBody (body_at c 3 id) found out) (λ c. body_at (below r c) 3 id ≡ None)
    (λ c held. text_missing r c id (subst (λ b. IsBody (body_at c 3 id) b out) none held)) is

-- a record's text is shown by its position, and by the id in the log there
pub unplaced_text : (told : Option Contents) (r : ℕ) (id body : List ℕ) → r ≤ 2 ^ 64 → BeginsWithNone number_text IsNumber body → IfSome told (λ c. false ≡ is_text_of r c id body)
unplaced_text None r id body fits none = tt
unplaced_text (Some c) r id body fits none = sym (ap (λ b. b && has_id_at c id (take 8 body)) (front_none r body fits none))

pub high_text : (told : Option Contents) (r q : ℕ) (id body rest : List ℕ) → Begins number_text IsNumber body q rest → r ≤ q → IfSome told (λ c. false ≡ is_text_of r c id body)
high_text None r q id body rest begins le = tt
high_text (Some c) r q id body rest begins le =
    sym (ap (λ b. b && has_id_at c id (take 8 body)) (ap (is_position r) (front_is q body rest begins.whole) ∙ high_position r q le begins.formed))

pub named_text : {E : Type 0} (told : Option Contents) (r q : ℕ) (id body rest : List ℕ) (result : Result Bool E) → Begins number_text IsNumber body q rest → q < r →
    IfSome told (λ c. IfOk result (λ named. named ≡ has_id_at c id (number_text q))) → IfSome told (λ c. IfOk result (λ shown. shown ≡ is_text_of r c id body))
named_text None r q id body rest result begins lt name = tt
named_text (Some c) r q id body rest (Err e) begins lt name = name
named_text (Some c) r q id body rest (Ok named) begins lt name =
    name ∙ sym (ap (λ k. is_position r k && has_id_at c id k) (front_is q body rest begins.whole) ∙ ap (λ b. b && has_id_at c id (number_text q)) (position_of r q lt begins.formed))

pub told_text : {E : Type 0} (old new : Option Contents) (r : ℕ) (id out : List ℕ) (found : Bool) (result : Result Bool E) → Same old new → IfSome old (λ c. IsBody (body_at c 3 id) found out) → found ≡ true →
    IfSome new (λ c. IfOk result (λ shown. shown ≡ is_text_of r c id out)) → IfSome new (λ c. IfOk result (λ shown. IsBody (body_at (below r c) 3 id) shown out))
told_text old new r id out found (Err e) same is there shown = shown
told_text old new r id out found (Ok shown) same is there told =
    both_told old new (λ c. IsBody (body_at c 3 id) found out) (λ c. shown ≡ is_text_of r c id out) (λ c. IsBody (body_at (below r c) 3 id) shown out) same
    (λ c held by. body_by (body_at (below r c) 3 id) shown out (text_shown r c id out (subst (λ b. IsBody (body_at c 3 id) b out) there held) ∙ ap (λ b. cond b (Some out) None) (sym by)))
    is told

-- tables 4 and 5
pub placed_key : (r : ℕ) (c : Contents) (table : ℕ) (key : List ℕ) → (table ≡ 4) ⊎ (table ≡ 5) → body_at (below r c) table key ≡ cond (is_position r key) (body_at c table key) None
placed_key r c table key (inl e) = subst (λ t. body_at (below r c) t key ≡ cond (is_position r key) (body_at c t key) None) (sym e) (kept_key (c 4) (is_position r) key)
placed_key r c table key (inr e) = subst (λ t. body_at (below r c) t key ≡ cond (is_position r key) (body_at c t key) None) (sym e) (kept_key (c 5) (is_position r) key)

pub told_unshown : (told : Option Contents) (r table : ℕ) (key : List ℕ) → (table ≡ 4) ⊎ (table ≡ 5) → is_position r key ≡ false → IfSome told (λ c. body_at (below r c) table key ≡ None)
told_unshown None r table key is other = tt
told_unshown (Some c) r table key is other = placed_key r c table key is ∙ ap (λ b. cond b (body_at c table key) None) other

pub told_placed : {E : Type 0} (told : Option Contents) (r table : ℕ) (key out : List ℕ) (result : Result Bool E) → (table ≡ 4) ⊎ (table ≡ 5) → is_position r key ≡ true →
    IfSome told (λ c. IfOk result (λ found. IsBody (body_at c table key) found out)) → IfSome told (λ c. IfOk result (λ found. IsBody (body_at (below r c) table key) found out))
told_placed None r table key out result is placed held = tt
told_placed (Some c) r table key out result is placed held =
    subst (λ o. IfOk result (λ found. IsBody o found out)) (sym (placed_key r c table key is ∙ ap (λ b. cond b (body_at c table key) None) placed)) held

-- what is shown is what a keeper can hold
picked : (P : Table → Type 0) (b : Bool) (s t : Table) → P s → P t → P (cond b s t)
picked P true s t ps pt = ps
picked P false s t ps pt = pt

pub no_key : (r : ℕ) (c : Contents) (table : ℕ) → AreKeyed c → body_at (below r c) table [] ≡ None
no_key r c table keyed =
    let P : Table → Type 0 = λ t. get t [] ≡ None in
    picked P (eqb table 1) _ _ (meta_get r [])
    (picked P (eqb table 2) _ _ (keyed.keys 2)
    (picked P (eqb table 3) _ _ (text_missing r c [] (keyed.keys 3))
    (picked P (eqb table 4) _ _ (kept_key (c 4) (is_position r) [] ∙ none_either (is_position r []) (body_at c 4 []) (keyed.keys 4))
    (picked P (eqb table 5) _ _ (kept_key (c 5) (is_position r) [] ∙ none_either (is_position r []) (body_at c 5 []) (keyed.keys 5))
    (get-empty (slice_cmp nat_cmp) [])))))

pub other_table : (r : ℕ) (c : Contents) (table : ℕ) → eqb table 1 ≡ false → eqb table 2 ≡ false → eqb table 3 ≡ false → eqb table 4 ≡ false → eqb table 5 ≡ false → below r c table ≡ no_table
other_table r c table e1 e2 e3 e4 e5 = rw (e1, e2, e3, e4, e5) refl

pub unused_table : (r : ℕ) (c : Contents) (table : ℕ) → (table ≡ 1 → ⊥) → (table ≡ 2 → ⊥) → (table ≡ 3 → ⊥) → (table ≡ 4 → ⊥) → (table ≡ 5 → ⊥) → below r c table ≡ no_table
unused_table r c table n1 n2 n3 n4 n5 = other_table r c table (ne_eqb table 1 n1) (ne_eqb table 2 n2) (ne_eqb table 3 n3) (ne_eqb table 4 n4) (ne_eqb table 5 n5)

pub no_record : (r : ℕ) (c : Contents) (table : ℕ) (key : List ℕ) → (table ≡ 1 → ⊥) → (table ≡ 2 → ⊥) → (table ≡ 3 → ⊥) → (table ≡ 4 → ⊥) → (table ≡ 5 → ⊥) → body_at (below r c) table key ≡ None
no_record r c table key n1 n2 n3 n4 n5 = ap (λ (t : Table). get t key) (unused_table r c table n1 n2 n3 n4 n5) ∙ get-empty (slice_cmp nat_cmp) key

pub keyed_below : (r : ℕ) (c : Contents) → AreKeyed c → AreKeyed (below r c)
keyed_below r c keyed = record {
  tables = λ table key high. no_record r c table key (λ e. omega (arith, e, high)) (λ e. omega (arith, e, high)) (λ e. omega (arith, e, high)) (λ e. omega (arith, e, high)) (λ e. omega (arith, e, high));
  keys = λ table. no_key r c table keyed;
}

pub told_keyed : (told : Option Contents) (r : ℕ) → IfSome told AreKeyed → IfSome (option_map (below r) told) AreKeyed
told_keyed None r keyed = tt
told_keyed (Some c) r keyed = keyed_below r c keyed

pub told_keyed_by : {X E : Type 0} (told : Option Contents) (r : ℕ) (result : Result X E) → OnOk result (IfSome told AreKeyed) → OnOk result (IfSome (option_map (below r) told) AreKeyed)
told_keyed_by told r (Ok x) keyed = told_keyed told r keyed
told_keyed_by told r (Err e) keyed = tt

-- what was told before is told of what is shown
was_told : (old new : Option Contents) (r : ℕ) (c : Contents) → Same old new → option_map (below r) new ≡ Some c → option_map (below r) old ≡ Some c
was_told old None r c same at = absurd cc
was_told old (Some d) r c same at = ap (option_map (below r)) (same d refl) ∙ at

is_told : (new : Option Contents) (r : ℕ) (c : Contents) → option_map (below r) new ≡ Some c → (d : Contents) × (new ≡ Some d)
is_told None r c at = absurd cc
is_told (Some d) r c at = (d, refl)

pub stays_shown : {K : Type 0} (contents : K → Option Contents) (leaves : K → Contents → Type 0) (faults : K → ℕ) (r : ℕ) (old new : K) →
    Stays contents leaves faults old new → Stays (told_below contents r) leaves faults old new
stays_shown contents leaves faults r old new stays = record {
  same = λ c at. was_told (contents old) (contents new) r c stays.same at;
  crash = λ c at e left. let o = is_told (contents new) r c at in stays.crash o.0 o.1 e left;
  later = stays.later;
}

pub meta_version : (r : ℕ) (q : List ℕ) → bytes_eq q version_key ≡ true → get (meta_of version r) q ≡ Some version
meta_version r q is = meta_get r q ∙ ap (λ b. cond b (Some version) (cond (bytes_eq q count_key) (Some (number_text r)) None)) is

pub meta_count : (r : ℕ) (q : List ℕ) → bytes_eq q version_key ≡ false → bytes_eq q count_key ≡ true → get (meta_of version r) q ≡ Some (number_text r)
meta_count r q other is = meta_get r q ∙ ap (λ b. cond b (Some version) (cond (bytes_eq q count_key) (Some (number_text r)) None)) other ∙ ap (λ b. cond b (Some (number_text r)) None) is

pub meta_none : (r : ℕ) (q : List ℕ) → bytes_eq q version_key ≡ false → bytes_eq q count_key ≡ false → get (meta_of version r) q ≡ None
meta_none r q other is = meta_get r q ∙ ap (λ b. cond b (Some version) (cond (bytes_eq q count_key) (Some (number_text r)) None)) other ∙ ap (λ b. cond b (Some (number_text r)) None) is

pub told_no_record : (told : Option Contents) (r table : ℕ) (key : List ℕ) → (table ≡ 1 → ⊥) → (table ≡ 2 → ⊥) → (table ≡ 3 → ⊥) → (table ≡ 4 → ⊥) → (table ≡ 5 → ⊥) →
    IfSome told (λ c. body_at (below r c) table key ≡ None)
told_no_record None r table key n1 n2 n3 n4 n5 = tt
told_no_record (Some c) r table key n1 n2 n3 n4 n5 = no_record r c table key n1 n2 n3 n4 n5
