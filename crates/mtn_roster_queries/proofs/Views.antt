-- From what was found to what is answered.
use Rattle.std.specs.Prelude.{Contains, IfSome, IfErr}
use Rattle.std.specs.List.{AllZip}
use Rattle.std.specs.List.Sorted.{IsStrictlySortedBy}
use Rattle.std.proofs.Common.{◌≡◌, ◌↔◌, ◌<◌, ℕ, List, Option, Some, None, Result, Ok, Err, length, refl, sym, ap, ◌∙◌, subst, inl, inr}
use Rattle.mtn_base.specs.declared.id.Id.{Id}
use Rattle.mtn_base.specs.declared.name.NodeName.{NodeName}
use Rattle.mtn_base.specs.declared.refusal.Cause.{Cause}
use Rattle.mtn_base.specs.declared.refusal.Cause.TheVariants.{UnknownRevision, NoSuchPath}
use Rattle.mtn_history_laws.specs.History.{Revision, tree_at, IsPlaceOf}
use Rattle.mtn_history_laws.specs.Scalars.Scalar.{ContentOf}
use Rattle.mtn_history.specs.declared.errors.HistoryError.{HistoryError}
use Rattle.mtn_history.specs.declared.errors.HistoryError.TheVariants.{Refused, Store}
use Rattle.mtn_history.specs.Marked.{AreHeld, FindsRoster, FindsRosters, IsCounted}
use Rattle.mtn_history.specs.declared.errors.StoreError.{StoreError}
use Rattle.mtn_history.specs.declared.errors.StoreError.TheVariants.{Failed}
use Rattle.mtn_history.specs.declared.pending.Pending.{Pending}
use Rattle.mtn_history.specs.Damage.{IsDamage}
use Rattle.mtn_history.specs.Errors.{IfDamage, IfStoreDamage}
use Rattle.mtn_history.specs.Stands.{IsFounded}
use Rattle.mtn_history.proofs.Founding.{counted}
use Rattle.mtn_model.specs.State.{State}
use Rattle.mtn_model.specs.Table.{Contents}
use Rattle.mtn_ports.specs.Kept.{with_all}
use Rattle.mtn_base.specs.Ids.{by_id}
use Rattle.mtn_replay.specs.Making.{place_of}
use Rattle.mtn_roster.specs.declared.entry.Body.{Body}
use Rattle.mtn_roster.specs.declared.entry.Body.TheVariants.{Dir, File}
use Rattle.mtn_roster.specs.declared.entry.Entry.{Entry}
use Rattle.mtn_roster.specs.Tree.{Tree, node_at}
use Rattle.mtn_answers.specs.Views.{TextAnswer, over}
use Rattle.mtn_roster_queries.specs.Answers.{Gives}
use Rattle.mtn_roster_queries.specs.Marks.{AreContentMarks, AreMarksFor, GivesMarks}
use Rattle.mtn_answers.specs.Views.{IsContentAt, IsContentChanged, IsContentIn, IsContentOf, corresponding_at, marks_text, node_text}
use Rattle.mtn_roster_queries.proofs.Marking.{are_mark_ids, mark_there}

-- a revision that was not found
pub not_found : (h : List Revision) (id : Id) (Is : Option ℕ → TextAnswer → Type 0) → Is None (Err (UnknownRevision id)) → (e : HistoryError) → FindsRoster h id (Err e) → Gives (Is (place_of h id)) (Err e)
not_found h id Is unknown (Refused cause) found = subst (λ o. Is o (Err cause)) (sym found.1) (subst (λ k. Is None (Err k)) (sym found.0) unknown)
not_found h id Is unknown (Store e) found = tt

-- an answer over the place of a revision
pub answer_at : (h : List Revision) (id : Id) (Is : Option ℕ → TextAnswer → Type 0) (at : ℕ) (answer : TextAnswer) → place_of h id ≡ Some at → Is (Some at) answer → Is (place_of h id) answer
answer_at h id Is at answer place is = subst (λ o. Is o answer) (sym place) is

module _ (h : List Revision) (id : Id) (path : List (List ℕ)) (at : ℕ) (place : place_of h id ≡ Some at) where
  no_content : (n : NodeName) (b : Body) (cause : Cause) → AreContentMarks h at path n b (Err cause) → IsContentOf h at path n b (Err cause)
  no_content n Dir cause marks = marks
  no_content n (File content) cause marks = absurd marks

  no_marks : (o : Option Entry) (cause : Cause) → AreMarksFor h at path o (Err cause) → IsContentAt h at path o (Err cause)
  no_marks None cause marks = marks
  no_marks (Some e) cause marks = no_content e.name e.body cause marks

  pub no_content_marks : (e : HistoryError) → GivesMarks h at path (Err e) → Gives (IsContentChanged h id path) (Err e)
  no_content_marks (Refused cause) marks = answer_at h id (IsContentIn h id path) at (Err cause) place (no_marks (node_at (tree_at h at) path) cause marks)
  no_content_marks (Store e) marks = tt

  module _ (marks : List ℕ) (ids once : List Id) (zip : AllZip (λ a x. IsPlaceOf h x a) marks ids) (up : IsStrictlySortedBy by_id once) (same : (x : Id) → Contains once x ↔ Contains ids x) where
    content_text : (n : NodeName) (b : Body) → AreContentMarks h at path n b (Ok marks) → IsContentOf h at path n b (Ok (marks_text once))
    content_text n Dir are = cc
    content_text n (File content) are = (once, are_mark_ids h at (ContentOf n) marks ids once are zip up same, refl)

    marks_there : (o : Option Entry) → AreMarksFor h at path o (Ok marks) → IsContentAt h at path o (Ok (marks_text once))
    marks_there None are = cc
    marks_there (Some e) are = content_text e.name e.body are

    pub content_changed : (text : List ℕ) → text ≡ marks_text once → GivesMarks h at path (Ok marks) → IsContentChanged h id path (Ok text)
    content_changed text is given = subst (λ t. IsContentChanged h id path (Ok t)) (sym is) (answer_at h id (IsContentIn h id path) at (Ok (marks_text once)) place (marks_there (node_at (tree_at h at) path) given))

-- the marks of a content stand in the history
module _ (h : List Revision) (at : ℕ) (path : List (List ℕ)) (marks : List ℕ) where
  body_held : (n : NodeName) (b : Body) → AreContentMarks h at path n b (Ok marks) → (x : ℕ) → Contains marks x → x < length h
  body_held n Dir are = cc
  body_held n (File content) are = λ x c. mark_there h (ContentOf n) at x ((are x).0 c)

  node_held : (o : Option Entry) → AreMarksFor h at path o (Ok marks) → (x : ℕ) → Contains marks x → x < length h
  node_held None are = cc
  node_held (Some e) are = body_held e.name e.body are

  pub marks_held : GivesMarks h at path (Ok marks) → (x : ℕ) → Contains marks x → x < length h
  marks_held given = node_held (node_at (tree_at h at) path) given

pub are_held : (told : Option Contents) (p : Pending) (marks : List ℕ) → ((f : List ℕ → List ℕ) (s : State) (d : IsFounded f told p s) (x : ℕ) → Contains marks x → x < length d.stands.history) → AreHeld told p marks
are_held told p marks low f s d x c = subst (λ n. x < n) (sym (counted f told p s d)) (low f s d x c)

pub not_failed : {T : Type 0} (r : Result T HistoryError) (e : HistoryError) → r ≡ Err e → (e ≡ Store Failed → ⊥) → r ≡ Err (Store Failed) → ⊥
not_failed r e is never at = never (let same : e ≡ Store Failed = let t = sym is ∙ at in cc in same)

-- a damage of the log, where the positions are held
pub held_damage : {T : Type 0} (told : Option Contents) (p q : Pending) (marks : List ℕ) (r : Result T HistoryError) (e : StoreError) → r ≡ Err (Store e) → q ≡ p → AreHeld told p marks →
    IfSome told (λ c. IsCounted q c → AreHeld told q marks → IfDamage e (IsDamage (with_all c q.batch))) → IfSome told (λ c. IsCounted p c → IfErr r (λ x. IfStoreDamage x (IsDamage (with_all c p.batch))))
held_damage told p q marks r e is same known fact =
    subst (λ y. IfSome told (λ c. IsCounted p c → IfErr y (λ x. IfStoreDamage x (IsDamage (with_all c p.batch))))) (sym is)
    (by told known (subst (λ (z : Pending). IfSome told (λ c. IsCounted z c → AreHeld told z marks → IfDamage e (IsDamage (with_all c z.batch)))) same fact))
  where
    by : (now : Option Contents) → AreHeld now p marks → IfSome now (λ c. IsCounted p c → AreHeld now p marks → IfDamage e (IsDamage (with_all c p.batch))) → IfSome now (λ c. IsCounted p c → IfDamage e (IsDamage (with_all c p.batch)))
    by None known h = tt
    by (Some c) known h = λ counts. h counts known

-- an answer that is one, is another that is the same
pub gives_same : (x y : TextAnswer) (r : Result (List ℕ) HistoryError) → x ≡ y → Gives (λ answer. answer ≡ x) r → Gives (λ answer. answer ≡ y) r
gives_same x y r same gives = subst (λ z. Gives (λ answer. answer ≡ z) r) same gives

-- where both revisions stand
module _ (h : List Revision) (id other : Id) (path : List (List ℕ)) where
  abbrev in_both : ℕ → ℕ → TextAnswer
  in_both r q = over (NoSuchPath path) (node_at (tree_at h r) path) (λ e. Ok (node_text (tree_at h q) e.name))

  abbrev pub over_second : ℕ → Option ℕ → TextAnswer
  over_second r o = over (UnknownRevision other) o (λ q. in_both r q)

  abbrev pub over_first : Option ℕ → TextAnswer
  over_first o = over (UnknownRevision id) o (λ r. over_second r (place_of h other))

  pub with_first : (r : ℕ) → place_of h id ≡ Some r → over_second r (place_of h other) ≡ corresponding_at h id path other
  with_first r place = ap over_first (sym place)

  pub with_both : (r q : ℕ) (t u : Tree) → place_of h id ≡ Some r → place_of h other ≡ Some q → tree_at h r ≡ t → tree_at h q ≡ u →
      over (NoSuchPath path) (node_at t path) (λ e. Ok (node_text u e.name)) ≡ corresponding_at h id path other
  with_both r q t u place also here there =
      ap (λ (x : Tree). over (NoSuchPath path) (node_at x path) (λ e. Ok (node_text u e.name))) (sym here)
      ∙ ap (λ (x : Tree). over (NoSuchPath path) (node_at (tree_at h r) path) (λ e. Ok (node_text x e.name))) (sym there)
      ∙ ap (over_second r) (sym also) ∙ with_first r place

-- where one of them was not found
pub neither_found : (h : List Revision) (a b : Id) (path : List (List ℕ)) (e : HistoryError) → FindsRosters h a b (Err e) → Gives (λ answer. answer ≡ corresponding_at h a path b) (Err e)
neither_found h a b path (Refused cause) (inl u) = not_found h a (λ o answer. answer ≡ over_first h a b path o) refl (Refused cause) u
neither_found h a b path (Refused cause) (inr u) =
    gives_same (over_second h a b path u.0 (place_of h b)) (corresponding_at h a path b) (Err (Refused cause)) (with_first h a b path u.0 u.1) (not_found h b (λ o answer. answer ≡ over_second h a b path u.0 o) refl (Refused cause) u.2)
neither_found h a b path (Store e) u = tt
