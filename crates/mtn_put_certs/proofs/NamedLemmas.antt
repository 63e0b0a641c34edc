-- The key that has a name.
use Rattle.std.specs.Prelude.{◌==◌, Contains, IfSome, MatchBool, bytes_eq, is_some, not}
use Rattle.std.specs.Cmp.Lexicographic.{slice_cmp}
use Rattle.std.specs.FinMap.{get, get-empty}
use Rattle.std.specs.Ordering.{nat_cmp}
use Rattle.std.proofs.Common.{◌≡◌, ◌+◌, length, take, ℕ, Bool, true, false, cond, List, [], ◌∷◌, ◌++◌, Option, Some, None, refl, sym, ap, ◌∙◌, subst, arith}
use Rattle.std.proofs.lemmas.Bool.Decides.{Decides-eqb}
use Rattle.std.proofs.lemmas.Slice.Eq.{bytes_eq-Decides}
use Rattle.std.proofs.lemmas.List.{append-nil, take_all}
use Rattle.mtn_base.specs.declared.id.Id.{Id}
use Rattle.mtn_certs.specs.Certificates.{IsIdBytes}
use Rattle.mtn_model.specs.State.{State}
use Rattle.mtn_model.specs.Table.{Contents, Table, body_at}
use Rattle.mtn_ports.specs.Kept.{IsAbove, with_all}
use Rattle.mtn_history.specs.Certificates.{KeyDamage}
use Rattle.mtn_history.specs.Errors.{IfDamage}
use Rattle.mtn_history.specs.declared.errors.Damage.TheVariants.{Bad}
use Rattle.mtn_history.specs.declared.errors.StoreError.{StoreError}
use Rattle.mtn_history.specs.Stands.{IsDraft, IsNew, StandsFor}
use Rattle.mtn_history.specs.declared.pending.Pending.{Pending}
use Rattle.mtn_history.proofs.CertRecords.{no_key_damage}
use Rattle.mtn_model.specs.Keys.{IsKeyOf}
use Rattle.mtn_put_certs.specs.Named.{AreNamed, HaveName, IsNamed, IsNextNamed, IsOnly}
use Rattle.mtn_put_certs.specs.Walking.{IsBehind, IsFollowing, IsHeldBehind, IsNoneAbove, IsNoneBetween}
use Rattle.mtn_put_certs.proofs.HeldLemmas.{above_none, damage_is, stands_of, told_if}
use Rattle.mtn_put_certs.proofs.KeyLemmas.{keys_of}
use Rattle.mtn_put_certs.proofs.Walking.{AreUpTo, at_end, moved_to, none_more, none_yet, one_more}

-- ---- key by key

-- the keys that were found up to one
abbrev pub AreNamedTo : Contents → List ℕ → List ℕ → List (List ℕ) → Type 0
AreNamedTo c name last named = AreUpTo (IsNamed c name) (λ k. k) last named

pub none_named : (c : Contents) (name last : List ℕ) (named : List (List ℕ)) → last ≡ [] → named ≡ [] → AreNamedTo c name last named
none_named c name last named first none =
    subst (AreNamedTo c name last) (sym none) (subst (λ l. AreNamedTo c name l []) (sym first) (none_yet (IsNamed c name) (λ k. k) [] (λ x own. own.0.above)))

-- whether the key that follows has the name
pub named_follows : (told : Option Contents) (p q : Pending) (name last shown key body now : List ℕ) (found : Option (List ℕ × List ℕ)) (is : Bool) (read : Option Bool) →
    q ≡ p → shown ≡ last → found ≡ Some (key, body) → now ≡ key → read ≡ Some is → is ≡ bytes_eq body name → IfSome told (λ c. IsFollowing (with_all c q.batch) 7 [] shown found) → IfSome told (λ c. IsNextNamed (with_all c p.batch) name last now read)
named_follows None p q name last shown key body now found is read same shows at moved reads tests next = tt
named_follows (Some c) p q name last shown key body now found is read same shows at moved reads tests next =
    let d = with_all c p.batch in
    let follows = moved_to (Some c) q p 7 [] last shown found (Some (key, body)) same shows at next in
    subst (IsNextNamed d name last now) (sym reads) (subst (λ k. IsNextNamed d name last k (Some is)) (sym moved) (
      follows.0,
      (
        λ yes. follows.1 ∙ ap Some ((bytes_eq-Decides body name).0 (sym tests ∙ yes)),
        λ has. tests ∙ (bytes_eq-Decides body name).1 (some_is body name (sym follows.1 ∙ has)),
      ),
      follows.3,
    ))
  where
    some_is : (a b : List ℕ) → Some a ≡ Some b → a ≡ b
    some_is a b at = cc

held_named : (c : Contents) (name key : List ℕ) → IsNamed c name key → IsHeldBehind c 7 [] key
held_named c name key own = (own.0, ap is_some own.1)

pub one_more_key : (c : Contents) (q p : Pending) (name last key : List ℕ) (named more : List (List ℕ)) (is : Bool) (found : Option Bool) → q ≡ p → found ≡ Some is → more ≡ named ++ cond is (key ∷ []) [] →
    IsNextNamed (with_all c q.batch) name last key found → AreNamedTo (with_all c p.batch) name last named → AreNamedTo (with_all c p.batch) name key more
one_more_key c q p name last key named more is found same at made next so_far =
    subst (AreNamedTo d name key) (sym made) (by is (subst (λ (r : Pending). IsNextNamed (with_all c r.batch) name last key (Some is)) same (subst (IsNextNamed (with_all c q.batch) name last key) at next)))
  where
    d : Contents
    d = with_all c p.batch

    none_between : IsNoneBetween d 7 [] last key → (x : List ℕ) → IsNamed d name x → IsAbove last x → IsAbove x key → ⊥
    none_between none x own above under = none x above under (held_named d name x own)

    by : (b : Bool) → IsNextNamed d name last key (Some b) → AreNamedTo d name key (named ++ cond b (key ∷ []) [])
    by true follows = one_more (IsNamed d name) (λ k. k) last key named (none_between follows.2) so_far key (follows.0, follows.1.0 refl) (λ x own e. sym e)
    by false follows =
        subst (AreNamedTo d name key) (sym (append-nil named))
        (none_more (IsNamed d name) (λ k. k) last key named (none_between follows.2) so_far (λ x own e. let yes : false ≡ true = follows.1.1 (ap (body_at d 7) (sym e) ∙ own.1) in cc))

pub all_named : (c : Contents) (q p : Pending) (name last key : List ℕ) (named : List (List ℕ)) (found : Option Bool) → q ≡ p → found ≡ None → IsNextNamed (with_all c q.batch) name last key found → AreNamedTo (with_all c p.batch) name last named → AreNamed (with_all c p.batch) name named
all_named c q p name last key named found same at next so_far =
    let d = with_all c p.batch in
    let none : IsNoneAbove d 7 [] last = subst (λ (r : Pending). IsNoneAbove (with_all c r.batch) 7 [] last) same (subst (IsNextNamed (with_all c q.batch) name last key) at next) in
    at_end (IsNamed d name) (λ k. k) last named (λ x own above. none x above (held_named d name x own)) so_far

-- ---- the one key

behind : (key : List ℕ) → IsIdBytes key → IsBehind [] key
behind (x ∷ xs) id = record { above = above_none [] x xs; rest = x ∷ xs; whole = refl }
behind [] id = absurd (let none : 0 ≡ 20 = id.twenty in cc)

ids_of : (b : Bool) (f : List ℕ → List ℕ) (c : Contents) (s : State) → MatchBool b (IsNew c s) (StandsFor f c s) → (key name : List ℕ) → get s.keys key ≡ Some name → IsIdBytes key
ids_of true f c s new key name has = absurd (let none : get s.keys key ≡ None = ap (λ (x : State). get x.keys key) new.state ∙ get-empty (slice_cmp nat_cmp) key in cc)
ids_of false f c s stands key name has = stands.lawful.keys.ids key name has

pub have_name : (f : List ℕ → List ℕ) (p : Pending) (c : Contents) (s : State) (named : List (List ℕ)) (name : List ℕ) → IsDraft f c p s → AreNamed (with_all c p.batch) name named → HaveName s.keys name named
have_name f p c s named name draft read key =
    let table : with_all c p.batch 7 ≡ s.keys = keys_of p.is_new f (with_all c p.batch) s draft.stands in (
      λ among. ap (λ (m : Table). get m key) (sym table) ∙ ((read key).0 among).1,
      λ has. (read key).1 (behind key (ids_of p.is_new f (with_all c p.batch) s draft.stands key name has), ap (λ (m : Table). get m key) table ∙ has),
    )

pub none_alone : (keys : Table) (name : List ℕ) (named shown : List (List ℕ)) → shown ≡ named → HaveName keys name named → IsOnly shown None → IsKeyOf keys name None
none_alone keys name named shown is have no_one id one =
    let own : IsOnly named None = subst (λ ks. IsOnly ks None) is no_one in
    own id.0 ((have id.0).1 one.has) (λ other among. one.alone other ((have other).0 among))

pub one_alone : (keys : Table) (name : List ℕ) (named shown : List (List ℕ)) (key : List ℕ) (id : Id) → shown ≡ named → HaveName keys name named → IsOnly shown (Some key) → id.0 ≡ key → IsKeyOf keys name (Some id)
one_alone keys name named shown key id is have one same =
    let own : IsOnly named (Some key) = subst (λ ks. IsOnly ks (Some key)) is one in
    record { has = subst (λ k. get keys k ≡ Some name) (sym same) ((have key).0 own.0); alone = λ other has. own.1 other ((have other).1 has) ∙ sym same }

-- a key that is no id
pub no_id : (c : Contents) (named shown : List (List ℕ)) (key name seen : List ℕ) → shown ≡ named → seen ≡ name → AreNamed c name named → IsOnly shown (Some key) → (length key ≡ 20 → ⊥) → KeyDamage c (Bad 7 key seen)
no_id c named shown key name seen is sees read one long =
    (refl, ((read key).0 (subst (λ ks. Contains ks key) is one.0)).1 ∙ ap Some (sym sees), λ id field. long id.twenty)

pub id_damaged : (told : Option Contents) (p : Pending) (e : StoreError) (named shown : List (List ℕ)) (key name : List ℕ) → shown ≡ named → ((c : Contents) → told ≡ Some c → AreNamed (with_all c p.batch) name named) → IsOnly shown (Some key) → (length key ≡ 20 → ⊥) →
    IfDamage e (λ d. d ≡ Bad 7 key name) → IfSome told (λ c. IfDamage e (KeyDamage (with_all c p.batch)))
id_damaged told p e named shown key name is held one long damage =
    told_if told (λ c. IfDamage e (KeyDamage (with_all c p.batch))) (λ c at. damage_is e (Bad 7 key name) (KeyDamage (with_all c p.batch)) damage (no_id (with_all c p.batch) named shown key name name is refl (held c at) one long))

-- two of the keys differ
pub two_keys : (keys : List (List ℕ)) (a b : List ℕ) → Contains keys a → Contains keys b → (a ≡ b → ⊥) → IsOnly keys None
two_keys keys a b in_a in_b differ key among all = differ (all a in_a ∙ sym (all b in_b))

-- no key that has a name is none
pub never_no_id : (f : List ℕ → List ℕ) (c : Contents) (p : Pending) (s : State) (e : StoreError) (named shown : List (List ℕ)) (key name : List ℕ) → IsDraft f c p s → shown ≡ named → AreNamed (with_all c p.batch) name named → IsOnly shown (Some key) →
    (length key ≡ 20 → ⊥) → IfDamage e (λ d. d ≡ Bad 7 key name) → IfDamage e (λ _. ⊥)
never_no_id f c p s e named shown key name draft is held one long damage =
    damage_is e (Bad 7 key name) (λ _. ⊥) damage (no_key_damage f (with_all c p.batch) s (Bad 7 key name) (stands_of p.is_new f (with_all c p.batch) s draft.stands) (no_id (with_all c p.batch) named shown key name name is refl held one long))

pub differ : (a b : List ℕ) (r : Bool) → r ≡ not (bytes_eq a b) → r ≡ true → a ≡ b → ⊥
differ a b r is ne e = let equal : not (bytes_eq a b) ≡ false = ap not ((bytes_eq-Decides a b).1 e) in cc

-- a front behind which nothing stands
pub whole_id : (n : ℕ) (id rest key : List ℕ) (b : Bool) → id ≡ take n key → length rest + n ≡ length key → b ≡ (length rest == 0) → b ≡ true → id ≡ key
whole_id n id rest key b front long is none = let empty : length rest ≡ 0 = (Decides-eqb (length rest) 0).0 (sym is ∙ none) in front ∙ take_all n key (omega (arith, empty, long))
