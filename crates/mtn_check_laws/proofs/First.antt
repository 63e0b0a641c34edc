-- A first damage is one at most, and contents without damage have none.
use Rattle.std.specs.Prelude.{slice_get}
use Rattle.std.proofs.Common.{◌≡◌, ◌≤◌, ◌<◌, ◌^◌, ℕ, zero, suc, List, [], ◌++◌, length, Option, Some, None, refl, sym, ap, ◌∙◌, subst, ◌⊎◌, inl, inr, arith}
use Rattle.std.proofs.lemmas.Cmp.{nat_list_cmp_total}
use Rattle.std.specs.FinMap.{slice_cmp-IsAntisymmetric, nat_cmp-IsAntisymmetric}
use Rattle.std.specs.Ordering.{nat_cmp, ordering_reverse}
use Rattle.std.specs.Cmp.Lexicographic.{slice_cmp}
use Rattle.std.specs.declared.cmp.Ordering.{Ordering}
use Rattle.std.specs.declared.cmp.Ordering.TheVariants.{Less, Equal, Greater}
use Rattle.mtn_history_laws.specs.History.{Revision}
use Rattle.mtn_replay.proofs.Places.{within, no_place}
use Rattle.mtn_model.specs.State.{Logged}
use Rattle.mtn_model.specs.Table.{Contents, body_at}
use Rattle.mtn_records.specs.Apart.{number_apart}
use Rattle.mtn_records.specs.Bounds.{IsLogAt, IsRosterAt}
use Rattle.mtn_records.specs.Fields.{number_text}
use Rattle.mtn_records.specs.declared.record.LogRecord.{LogRecord}
use Rattle.mtn_history.specs.declared.errors.Damage.{Damage}
use Rattle.mtn_history.specs.declared.errors.Damage.TheVariants.{Bad, Missing}
use Rattle.mtn_history.specs.Damage.{IsShown}
use Rattle.mtn_history.specs.Logs.{IsLogged, UnloggedAt, RepeatedAt}
use Rattle.mtn_history.specs.Meta.{count_key, version_key, version, VersionDamage}
use Rattle.mtn_check_laws.specs.Records.{Rule, AllKeep, IsBefore, IsFirstBreak}
use Rattle.mtn_check_laws.specs.Fronts.{Front, Step, IsEntered, IsTextAt, IsTold, IsStepAt, IsFrontAt, StandsTo}
use Rattle.mtn_check_laws.specs.FirstDamage.{NoRecord, IsMetaKey, IsUsed, IsFileRecord, IsPlacedIn, IsNameRecord, IsCertRecord, IsCount, WrongCount, TextDamageAt, TellDamageAt, RosterDamageAt, IsDamageAt, at_log, at_text, at_telling, at_roster, IsBegun, IsWalked, IsFirstDamage, in_new, in_count, in_version, in_meta, in_others, in_files, in_walk, unplaced, in_names, in_certs, HoldsNothing, IsWhole, IsClean}
use Rattle.mtn_check_laws.proofs.Walks.{one_body, one_logged, one_rest, one_next, one_front}
use Rattle.mtn_check_laws.proofs.Standing.{front_stands}

clash : (o : Option (List ℕ)) (body : List ℕ) → o ≡ Some body → o ≡ None → ⊥
clash o body there none = cc

-- of two numbers one is less, or they are one
data Apart (a b : ℕ) : Type 0 where
  is_less : a < b → Apart a b
  is_same : a ≡ b → Apart a b
  is_more : b < a → Apart a b

apart : (a b : ℕ) → Apart a b
apart zero zero = is_same refl
apart zero (suc b) = is_less (omega arith)
apart (suc a) zero = is_more (omega arith)
apart (suc a) (suc b) = up (apart a b)
  where
    up : Apart a b → Apart (suc a) (suc b)
    up (is_less lt) = is_less (omega (arith, lt))
    up (is_same e) = is_same (ap suc e)
    up (is_more lt) = is_more (omega (arith, lt))

-- a step finds one damage at most, and none where it is fine; so of steps in order
abbrev IsOne : (Damage → Type 0) → Type 0
IsOne wrong = (d e : Damage) → wrong d → wrong e → d ≡ e

abbrev Then : (Damage → Type 0) → Type 0 → (Damage → Type 0) → Damage → Type 0
Then wrong fine later d = wrong d ⊎ (fine × later d)

then_one : (wrong : Damage → Type 0) (fine : Type 0) (later : Damage → Type 0) → IsOne wrong → ((d : Damage) → wrong d → fine → ⊥) → IsOne later → IsOne (Then wrong fine later)
then_one wrong fine later one never rest d e (inl a) (inl b) = one d e a b
then_one wrong fine later one never rest d e (inl a) (inr b) = absurd (never d a b.0)
then_one wrong fine later one never rest d e (inr a) (inl b) = absurd (never e b a.0)
then_one wrong fine later one never rest d e (inr a) (inr b) = rest d e a.1 b.1

-- what is held under a key, or that nothing is
abbrev HeldAs : Contents → ℕ → List ℕ → Damage → Type 0
HeldAs c t k (Bad table key body) = (table ≡ t) × (key ≡ k) × (body_at c t key ≡ Some body)
HeldAs c t k (Missing table key) = (table ≡ t) × (key ≡ k) × (body_at c t key ≡ None)

held_one : (c : Contents) (t : ℕ) (k : List ℕ) → IsOne (HeldAs c t k)
held_one c t k (Bad t1 k1 b1) (Bad t2 k2 b2) x y =
    let key : k1 ≡ k2 = x.1 ∙ sym y.1 in
    let body : b1 ≡ b2 = one_body (body_at c t k1) b1 b2 x.2 (ap (body_at c t) key ∙ y.2) in
    λ i. Bad ((x.0 ∙ sym y.0) i) (key i) (body i)
held_one c t k (Bad t1 k1 b1) (Missing t2 k2) x y = absurd (clash (body_at c t k1) b1 x.2 (ap (body_at c t) (x.1 ∙ sym y.1) ∙ y.2))
held_one c t k (Missing t1 k1) (Bad t2 k2 b2) x y = absurd (clash (body_at c t k2) b2 y.2 (ap (body_at c t) (y.1 ∙ sym x.1) ∙ x.2))
held_one c t k (Missing t1 k1) (Missing t2 k2) x y = λ i. Missing ((x.0 ∙ sym y.0) i) ((x.1 ∙ sym y.1) i)

-- the first record that breaks a rule is one
module _ (rule : Rule) (c : Contents) where
  never_before : (d e : Damage) (a : IsFirstBreak rule c d) (b : IsFirstBreak rule c e) → IsBefore a.table a.key b.table b.key → ⊥
  never_before d e a b before = a.broken (b.earlier a.table a.key a.body before a.held)

  turned : (x y : List ℕ) → slice_cmp nat_cmp x y ≡ Greater → slice_cmp nat_cmp y x ≡ Less
  turned x y e = nat_list_cmp_total.antisymm y x ∙ ap ordering_reverse e

  break_one : IsOne (IsFirstBreak rule c)
  break_one d e a b = by (apart a.table b.table)
    where
      keys : a.table ≡ b.table → (o : Ordering) → slice_cmp nat_cmp a.key b.key ≡ o → d ≡ e
      keys t Less is = absurd (never_before d e a b (inr (t, is)))
      keys t Greater is = absurd (never_before e d b a (inr (sym t, turned a.key b.key is)))
      keys t Equal is =
          let key : a.key ≡ b.key = slice_cmp-IsAntisymmetric nat_cmp-IsAntisymmetric a.key b.key is in
          let body : a.body ≡ b.body = one_body (body_at c a.table a.key) a.body b.body a.held ((λ i. body_at c (t i) (key i)) ∙ b.held) in
          a.shown ∙ (λ i. Bad (t i) (key i) (body i)) ∙ sym b.shown

      by : Apart a.table b.table → d ≡ e
      by (is_less lt) = absurd (never_before d e a b (inl lt))
      by (is_same t) = keys t (slice_cmp nat_cmp a.key b.key) refl
      by (is_more lt) = absurd (never_before e d b a (inl lt))

  break_never : (d : Damage) → IsFirstBreak rule c d → AllKeep rule c → ⊥
  break_never d a keep = a.broken (keep a.table a.key a.body a.held)

module _ (f : List ℕ → List ℕ) (c : Contents) (r : ℕ) (front : Front) where
  -- the four steps of a position
  abbrev InLog : Damage → Type 0
  InLog d = UnloggedAt c r d ⊎ RepeatedAt c r d

  abbrev Entered : Type 0
  Entered = (entry : LogRecord) × IsEntered c r front entry

  abbrev InText : Damage → Type 0
  InText d = (entry : LogRecord) × IsEntered c r front entry × TextDamageAt f c r front entry d

  abbrev Read : Type 0
  Read = (entry : LogRecord) × (l : Logged) × (v : Revision) × IsEntered c r front entry × IsTextAt f c r front entry.id l v

  abbrev InTelling : Damage → Type 0
  InTelling d = (entry : LogRecord) × (l : Logged) × (v : Revision) × IsEntered c r front entry × IsTextAt f c r front entry.id l v × TellDamageAt c r front entry v d

  abbrev Told : Type 0
  Told = (entry : LogRecord) × (l : Logged) × (v : Revision) × IsEntered c r front entry × IsTextAt f c r front entry.id l v × IsTold front entry v

  abbrev InRoster : Damage → Type 0
  InRoster d = (entry : LogRecord) × (l : Logged) × (v : Revision) × IsEntered c r front entry × IsTextAt f c r front entry.id l v × IsTold front entry v × RosterDamageAt c r front v d

  log_held : (d : Damage) → InLog d → HeldAs c 4 (number_text r) d
  log_held (Bad t k b) (inl w) = (w.0, w.1, w.2)
  log_held (Bad t k b) (inr w) = (w.0, w.1, w.2)
  log_held (Missing t k) (inl w) = w
  log_held (Missing t k) (inr w) = absurd w

  log_one : IsOne InLog
  log_one d e a b = held_one c 4 (number_text r) d e (log_held d a) (log_held e b)

  entries_one : (a b : LogRecord) → IsEntered c r front a → IsEntered c r front b → a ≡ b
  entries_one a b x y = one_logged c r a b x.logged y.logged

  text_held : (entry : LogRecord) (d : Damage) → TextDamageAt f c r front entry d → HeldAs c 3 entry.id.0 d
  text_held entry (Bad t k b) w = (w.0, w.1, w.2)
  text_held entry (Missing t k) w = w

  text_one : IsOne InText
  text_one d e (a, x, w) (b, y, u) =
      held_one c 3 b.id.0 d e (subst (λ (l : LogRecord). HeldAs c 3 l.id.0 d) (entries_one a b x y) (text_held a d w)) (text_held b e u)

  tell_held : (entry : LogRecord) (v : Revision) (d : Damage) → TellDamageAt c r front entry v d → HeldAs c 4 (number_text r) d
  tell_held entry v (Bad t k b) w = (w.0, w.1, w.2)
  tell_held entry v (Missing t k) w = absurd w

  tell_one : IsOne InTelling
  tell_one d e (a, l, v, x, t, w) (b, m, u, y, s, z) = held_one c 4 (number_text r) d e (tell_held a v d w) (tell_held b u e z)

  roster_held : (v : Revision) (d : Damage) → RosterDamageAt c r front v d → HeldAs c 5 (number_text r) d
  roster_held v (Bad t k b) w = (w.0, w.1, w.2)
  roster_held v (Missing t k) w = w

  roster_one : IsOne InRoster
  roster_one d e (a, l, v, x, t, i, w) (b, m, u, y, s, j, z) = held_one c 5 (number_text r) d e (roster_held v d w) (roster_held u e z)

  -- none is found where what is asked is there
  module _ (stands : StandsTo f c r front) where
    below : (q : ℕ) (earlier : LogRecord) → q < r → IsLogged c q earlier → (v : Revision) × (slice_get front.history q ≡ Some v) × (v.id ≡ earlier.id)
    below q earlier lt logged =
        let long : length front.history ≡ r = stands.spelled.long ∙ stands.long in
        let v = within front.history q (omega (arith, lt, long)) in
        let k = within front.kept q (omega (arith, lt, long, stands.revisions.long)) in
        let body = stands.log q v.0 k.0 v.1 k.1 in
        let same = one_logged c q (record { id = v.0.id; next_node = k.0.next; parents = body.2.parents }) earlier (record { body = body.0; held = body.1; text = body.2.text }) logged in
        (v.0, v.1, ap (λ (l : LogRecord). l.id) same)

    log_never : (d : Damage) → InLog d → Entered → ⊥
    log_never (Bad t k b) (inl w) (entry, x) =
        w.3 entry (subst (λ o. IsLogAt r o entry) (one_body (body_at c 4 k) x.logged.body b (ap (body_at c 4) w.1 ∙ x.logged.held) w.2) x.logged.text)
    log_never (Missing t k) (inl w) (entry, x) = clash (body_at c 4 (number_text r)) x.logged.body x.logged.held (ap (body_at c 4) (sym w.1) ∙ w.2)
    log_never (Missing t k) (inr w) y = w
    log_never (Bad t k b) (inr w) (entry, x) =
        let log = w.3.0 in
        let again = w.3.2 in
        let own : log ≡ entry = one_logged c r log entry (record { body = b; held = ap (body_at c 4) (sym w.1) ∙ w.2; text = w.3.1 }) x.logged in
        let v = below again.0 again.1 again.2 again.3 in
        no_place front.history entry.id x.fresh again.0 (v.0, v.1, v.2 ∙ again.4 ∙ ap (λ (l : LogRecord). l.id) own)

  text_never : (d : Damage) → InText d → Read → ⊥
  text_never (Bad t k b) (a, x, w) (entry, l, v, y, text) =
      let same : a ≡ entry = entries_one a entry x y in
      let key : k ≡ entry.id.0 = w.1 ∙ ap (λ (e : LogRecord). e.id.0) same in
      let body : b ≡ number_text r ++ l.text = one_body (body_at c 3 k) b (number_text r ++ l.text) w.2 (ap (body_at c 3) key ∙ text.held) in
      w.3 l v (text.same ∙ ap (λ (e : LogRecord). e.id.0) (sym same)) body text.lawful
  text_never (Missing t k) (a, x, w) (entry, l, v, y, text) =
      let key : k ≡ entry.id.0 = w.1 ∙ ap (λ (e : LogRecord). e.id.0) (entries_one a entry x y) in
      clash (body_at c 3 entry.id.0) (number_text r ++ l.text) text.held (ap (body_at c 3) (sym key) ∙ w.2)

  -- two texts under one id are one
  texts_one : (a b : LogRecord) (l m : Logged) (v u : Revision) → a ≡ b → IsTextAt f c r front a.id l v → IsTextAt f c r front b.id m u → v ≡ u
  texts_one a b l m v u same x y =
      let id : l.id ≡ m.id = x.same ∙ ap (λ (e : LogRecord). e.id.0) same ∙ sym y.same in
      let text : l.text ≡ m.text = one_rest r (body_at c 3 a.id.0) l.text m.text x.held (ap (λ (e : LogRecord). body_at c 3 e.id.0) same ∙ y.held) in
      one_next f (c 2) front.history l m v u (λ i. record { id = id i; text = text i }) x.lawful y.lawful

  tell_never : (d : Damage) → InTelling d → Told → ⊥
  tell_never (Bad t k b) (a, l, v, x, text, w) (entry, m, u, y, other, told) =
      let same : a ≡ entry = entries_one a entry x y in
      let one : v ≡ u = texts_one a entry l m v u same text other in
      w.3 (subst (λ (e : LogRecord). IsTold front e v) (sym same) (subst (IsTold front entry) (sym one) told))
  tell_never (Missing t k) (a, l, v, x, text, w) y = w

  roster_never : (d : Damage) → InRoster d → (s : Step) → IsStepAt f c r front s → ⊥
  roster_never (Bad t k b) (a, l, v, x, text, told, w) s step =
      let one : v ≡ s.revision = texts_one a step.entry l s.logged v s.revision (entries_one a step.entry x step.entered) text step.text in
      let wrong = subst (λ (u : Revision). RosterDamageAt c r front u (Bad t k b)) one w in
      let body : step.roster.body ≡ b = one_body (body_at c 5 k) step.roster.body b (ap (body_at c 5) w.1 ∙ step.roster.held) w.2 in
      wrong.3 s.kept step.roster.is.roster step.roster.kept (subst (λ o. IsRosterAt r o step.roster.is.roster) body step.roster.is.text) step.roster.is.is
  roster_never (Missing t k) (a, l, v, x, text, told, w) s step = clash (body_at c 5 (number_text r)) step.roster.body step.roster.held (ap (body_at c 5) (sym w.1) ∙ w.2)

  abbrev InOrder : Damage → Type 0
  InOrder = Then InLog Entered (Then InText Read (Then InTelling Told InRoster))

  in_order : (d : Damage) → IsDamageAt f c r front d → InOrder d
  in_order d (at_log w) = inl w
  in_order d (at_text entry x w) = inr ((entry, x), inl (entry, x, w))
  in_order d (at_telling entry l v x t w) = inr ((entry, x), inr ((entry, l, v, x, t), inl (entry, l, v, x, t, w)))
  in_order d (at_roster entry l v x t i w) = inr ((entry, x), inr ((entry, l, v, x, t), inr ((entry, l, v, x, t, i), (entry, l, v, x, t, i, w))))

  damage_one : StandsTo f c r front → IsOne (IsDamageAt f c r front)
  damage_one stands d e a b =
      then_one InLog Entered (Then InText Read (Then InTelling Told InRoster)) log_one (log_never stands)
      (then_one InText Read (Then InTelling Told InRoster) text_one text_never
      (then_one InTelling Told InRoster tell_one tell_never roster_one)) d e (in_order d a) (in_order e b)

  damage_never : StandsTo f c r front → (d : Damage) → IsDamageAt f c r front d → (s : Step) → IsStepAt f c r front s → ⊥
  damage_never stands d (at_log w) s step = log_never stands d w (step.entry, step.entered)
  damage_never stands d (at_text entry x w) s step = text_never d (entry, x, w) (step.entry, s.logged, s.revision, step.entered, step.text)
  damage_never stands d (at_telling entry l v x t w) s step = tell_never d (entry, l, v, x, t, w) (step.entry, s.logged, s.revision, step.entered, step.text, step.told)
  damage_never stands d (at_roster entry l v x t i w) s step = roster_never d (entry, l, v, x, t, i, w) s step

module _ (f : List ℕ → List ℕ) (c : Contents) where
  -- a walk past a position went over its records
  abbrev Passed : ℕ → Type 0
  Passed r = (before : Front) × (s : Step) × IsFrontAt f c r before × IsStepAt f c r before s

  passed_by : (n r : ℕ) (before : Front) (s : Step) → IsFrontAt f c n before → IsStepAt f c n before s → (r < n → Passed r) → r < suc n → Apart r n → Passed r
  passed_by n r before s walked step back lt (is_less low) = back low
  passed_by n r before s walked step back lt (is_same e) = (before, s, subst (λ k. IsFrontAt f c k before) (sym e) walked, subst (λ k. IsStepAt f c k before s) (sym e) step)
  passed_by n r before s walked step back lt (is_more high) = absurd (omega (arith, lt, high))

  passed : (n r : ℕ) (front : Front) → r < n → IsFrontAt f c n front → Passed r
  passed zero r front lt is = absurd (omega (arith, lt))
  passed (suc n) r front lt (before, s, walked, step, is) = passed_by n r before s walked step (λ low. passed n r before low walked) lt (apart r n)

  walk_never : (n r : ℕ) (front whole : Front) (d : Damage) → r < n → IsFrontAt f c r front → IsDamageAt f c r front d → IsFrontAt f c n whole → ⊥
  walk_never n r front whole d lt walked wrong is =
      let p = passed n r whole lt is in
      let same : p.0 ≡ front = one_front f c r p.0 front p.2 walked in
      damage_never f c r front (front_stands f c r front walked) d wrong p.1 (subst (λ x. IsStepAt f c r x p.1) same p.3)

  abbrev InWalk : Damage → Type 0
  InWalk d = (n : ℕ) × (r : ℕ) × (front : Front) × IsCount c n × (r < n) × IsFrontAt f c r front × IsDamageAt f c r front d

  abbrev Walked : Type 0
  Walked = (n : ℕ) × (front : Front) × IsCount c n × IsFrontAt f c n front

  -- behind the walk: a record that breaks a rule of its front
  abbrev Behind : (Front → Rule) → Damage → Type 0
  Behind rule d = (n : ℕ) × (front : Front) × IsCount c n × IsFrontAt f c n front × IsFirstBreak (rule front) c d

  abbrev AllBehind : (Front → Rule) → Type 0
  AllBehind rule = (n : ℕ) × (front : Front) × IsCount c n × IsFrontAt f c n front × AllKeep (rule front) c

  counts_one : (n m : ℕ) → IsCount c n → IsCount c m → n ≡ m
  counts_one n m a b =
      (number_apart n m [] [] (small n a.limit) (small m b.limit) (ap (λ l. l ++ []) (one_body (body_at c 1 count_key) (number_text n) (number_text m) a.held b.held))).0
    where
      small : (k : ℕ) → k ≤ 2147483648 → k < 2 ^ 64
      small k le = omega (arith, le)

  walk_one : IsOne InWalk
  walk_one d e (n, r, front, a, lt, walked, wrong) (m, q, other, b, lt', walked', wrong') = by (apart r q)
    where
      by : Apart r q → d ≡ e
      by (is_less low) = absurd (walk_never q r front other d low walked wrong walked')
      by (is_more high) = absurd (walk_never r q other front e high walked' wrong' walked)
      by (is_same is) =
          let at : IsFrontAt f c r other = subst (λ k. IsFrontAt f c k other) (sym is) walked' in
          let one : other ≡ front = one_front f c r other front at walked in
          let too : IsDamageAt f c r front e = subst (λ x. IsDamageAt f c r x e) one (subst (λ k. IsDamageAt f c k other e) (sym is) wrong') in
          damage_one f c r front (front_stands f c r front walked) d e wrong too

  walks_never : (d : Damage) → InWalk d → Walked → ⊥
  walks_never d (n, r, front, a, lt, walked, wrong) (m, whole, b, is) =
      walk_never m r front whole d (subst (λ k. r < k) (counts_one n m a b) lt) walked wrong is

  fronts_one : (n m : ℕ) (front other : Front) → IsCount c n → IsCount c m → IsFrontAt f c n front → IsFrontAt f c m other → other ≡ front
  fronts_one n m front other a b walked walked' = one_front f c n other front (subst (λ k. IsFrontAt f c k other) (counts_one m n b a) walked') walked

  behind_one : (rule : Front → Rule) → IsOne (Behind rule)
  behind_one rule d e (n, front, a, walked, wrong) (m, other, b, walked', wrong') =
      break_one (rule front) c d e wrong (subst (λ x. IsFirstBreak (rule x) c e) (fronts_one n m front other a b walked walked') wrong')

  behind_never : (rule : Front → Rule) (d : Damage) → Behind rule d → AllBehind rule → ⊥
  behind_never rule d (n, front, a, walked, wrong) (m, other, b, walked', keep) =
      break_never (rule front) c d wrong (subst (λ x. AllKeep (rule x) c) (fronts_one n m front other a b walked walked') keep)

  abbrev Placed : Front → Rule
  Placed front = IsPlacedIn front

  -- the steps before the walk
  abbrev InNew : Damage → Type 0
  InNew d = (body_at c 1 count_key ≡ None) × IsFirstBreak NoRecord c d

  abbrev HasCount : Type 0
  HasCount = (body : List ℕ) × (body_at c 1 count_key ≡ Some body)

  abbrev IsCounted : Type 0
  IsCounted = (n : ℕ) × IsCount c n

  abbrev HasVersion : Type 0
  HasVersion = body_at c 1 version_key ≡ Some version

  new_one : IsOne InNew
  new_one d e a b = break_one NoRecord c d e a.1 b.1

  new_never : (d : Damage) → InNew d → HasCount → ⊥
  new_never d a b = clash (body_at c 1 count_key) b.0 b.1 a.0

  count_one : IsOne (WrongCount c)
  count_one d e a b = a.shown ∙ ap (Bad 1 count_key) (one_body (body_at c 1 count_key) a.body b.body a.held b.held) ∙ sym b.shown

  count_never : (d : Damage) → WrongCount c d → IsCounted → ⊥
  count_never d a (n, b) = a.broken n b.limit (one_body (body_at c 1 count_key) a.body (number_text n) a.held b.held)

  version_held : (d : Damage) → VersionDamage c d → HeldAs c 1 version_key d
  version_held (Bad t k b) w = (w.0, w.1, ap (body_at c 1) w.1 ∙ w.2)
  version_held (Missing t k) w = (w.0, w.1, ap (body_at c 1) w.1 ∙ w.2)

  version_one : IsOne (VersionDamage c)
  version_one d e a b = held_one c 1 version_key d e (version_held d a) (version_held e b)

  version_never : (d : Damage) → VersionDamage c d → HasVersion → ⊥
  version_never (Bad t k b) w has = w.3 (one_body (body_at c 1 version_key) b version w.2 has)
  version_never (Missing t k) w has = clash (body_at c 1 version_key) version has w.2

  abbrev Last : Damage → Type 0
  Last = Then (Behind Placed) (AllBehind Placed) (Then (IsFirstBreak IsNameRecord c) (AllKeep IsNameRecord c) (Behind IsCertRecord))

  abbrev Late : Damage → Type 0
  Late = Then (IsFirstBreak (IsFileRecord f) c) (AllKeep (IsFileRecord f) c) (Then InWalk Walked Last)

  abbrev Middle : Damage → Type 0
  Middle = Then (IsFirstBreak IsMetaKey c) (AllKeep IsMetaKey c) (Then (IsFirstBreak IsUsed c) (AllKeep IsUsed c) Late)

  abbrev All : Damage → Type 0
  All = Then InNew HasCount (Then (WrongCount c) IsCounted (Then (VersionDamage c) HasVersion Middle))

  last_one : IsOne Last
  last_one = then_one (Behind Placed) (AllBehind Placed) (Then (IsFirstBreak IsNameRecord c) (AllKeep IsNameRecord c) (Behind IsCertRecord)) (behind_one Placed) (behind_never Placed)
      (then_one (IsFirstBreak IsNameRecord c) (AllKeep IsNameRecord c) (Behind IsCertRecord) (break_one IsNameRecord c) (break_never IsNameRecord c) (behind_one IsCertRecord))

  late_one : IsOne Late
  late_one = then_one (IsFirstBreak (IsFileRecord f) c) (AllKeep (IsFileRecord f) c) (Then InWalk Walked Last) (break_one (IsFileRecord f) c) (break_never (IsFileRecord f) c)
      (then_one InWalk Walked Last walk_one walks_never last_one)

  middle_one : IsOne Middle
  middle_one = then_one (IsFirstBreak IsMetaKey c) (AllKeep IsMetaKey c) (Then (IsFirstBreak IsUsed c) (AllKeep IsUsed c) Late) (break_one IsMetaKey c) (break_never IsMetaKey c)
      (then_one (IsFirstBreak IsUsed c) (AllKeep IsUsed c) Late (break_one IsUsed c) (break_never IsUsed c) late_one)

  all_one : IsOne All
  all_one = then_one InNew HasCount (Then (WrongCount c) IsCounted (Then (VersionDamage c) HasVersion Middle)) new_one new_never
      (then_one (WrongCount c) IsCounted (Then (VersionDamage c) HasVersion Middle) count_one count_never
      (then_one (VersionDamage c) HasVersion Middle version_one version_never middle_one))

  after_version : (n : ℕ) (d : Damage) → IsCount c n → HasVersion → Middle d → All d
  after_version n d count has rest = inr ((number_text n, count.held), inr ((n, count), inr (has, rest)))

  after_files : (n : ℕ) (d : Damage) → IsBegun f c n → Then InWalk Walked Last d → All d
  after_files n d begun rest = after_version n d begun.count begun.version (inr (begun.meta, inr (begun.used, inr (begun.files, rest))))

  after_walk : (n : ℕ) (front : Front) (d : Damage) → IsWalked f c n front → Last d → All d
  after_walk n front d w rest = after_files n d w.begun (inr ((n, front, w.begun.count, w.positions), rest))

  all_steps : (d : Damage) → IsFirstDamage f c d → All d
  all_steps d (in_new none w) = inl (none, w)
  all_steps d (in_count w) = inr ((w.body, w.held), inl w)
  all_steps d (in_version n count w) = inr ((number_text n, count.held), inr ((n, count), inl w))
  all_steps d (in_meta n count has w) = after_version n d count has (inl w)
  all_steps d (in_others n count has meta w) = after_version n d count has (inr (meta, inl w))
  all_steps d (in_files n count has meta used w) = after_version n d count has (inr (meta, inr (used, inl w)))
  all_steps d (in_walk n r front begun lt walked w) = after_files n d begun (inl (n, r, front, begun.count, lt, walked, w))
  all_steps d (unplaced n front w wrong) = after_walk n front d w (inl (n, front, w.begun.count, w.positions, wrong))
  all_steps d (in_names n front w placed wrong) = after_walk n front d w (inr ((n, front, w.begun.count, w.positions, placed), inl wrong))
  all_steps d (in_certs n front w placed names wrong) =
      after_walk n front d w (inr ((n, front, w.begun.count, w.positions, placed), inr (names, (n, front, w.begun.count, w.positions, wrong))))

  pub one_first : (d e : Damage) → IsFirstDamage f c d → IsFirstDamage f c e → d ≡ e
  one_first d e a b = all_one d e (all_steps d a) (all_steps e b)

  -- clean contents have none
  walked_never : (d : Damage) (w : IsWhole f c) → Then InWalk Walked Last d → ⊥
  walked_never d w (inl a) = walks_never d a (w.number, w.front, w.walked.begun.count, w.walked.positions)
  walked_never d w (inr (k, inl a)) = behind_never Placed d a (w.number, w.front, w.walked.begun.count, w.walked.positions, w.placed)
  walked_never d w (inr (k, inr (p, inl a))) = break_never IsNameRecord c d a w.names
  walked_never d w (inr (k, inr (p, inr (s, a)))) = behind_never IsCertRecord d a (w.number, w.front, w.walked.begun.count, w.walked.positions, w.certs)

  whole_never : (d : Damage) (w : IsWhole f c) → All d → ⊥
  whole_never d w (inl a) = new_never d a (number_text w.number, w.walked.begun.count.held)
  whole_never d w (inr (h, inl a)) = count_never d a (w.number, w.walked.begun.count)
  whole_never d w (inr (h, inr (n, inl a))) = version_never d a w.walked.begun.version
  whole_never d w (inr (h, inr (n, inr (v, inl a)))) = break_never IsMetaKey c d a w.walked.begun.meta
  whole_never d w (inr (h, inr (n, inr (v, inr (m, inl a))))) = break_never IsUsed c d a w.walked.begun.used
  whole_never d w (inr (h, inr (n, inr (v, inr (m, inr (u, inl a)))))) = break_never (IsFileRecord f) c d a w.walked.begun.files
  whole_never d w (inr (h, inr (n, inr (v, inr (m, inr (u, inr (i, rest))))))) = walked_never d w rest

  nothing_never : (d : Damage) → HoldsNothing c → All d → ⊥
  nothing_never d none (inl (e, w)) = break_never NoRecord c d w none.none
  nothing_never d none (inr (h, rest)) = clash (body_at c 1 count_key) h.0 h.1 none.count

  pub clean_never : (d : Damage) → IsClean f c → IsFirstDamage f c d → ⊥
  clean_never d (inl none) w = nothing_never d none (all_steps d w)
  clean_never d (inr whole) w = whole_never d whole (all_steps d w)

-- a first damage shows what is held, or a key under which nothing is
shown_held : (c : Contents) (t : ℕ) (k : List ℕ) (d : Damage) → HeldAs c t k d → IsShown c d
shown_held c t k (Bad table key body) w = ap (λ n. body_at c n key) w.0 ∙ w.2
shown_held c t k (Missing table key) w = ap (λ n. body_at c n key) w.0 ∙ w.2

shown_break : (rule : Rule) (c : Contents) (d : Damage) → IsFirstBreak rule c d → IsShown c d
shown_break rule c d w = subst (IsShown c) (sym w.shown) w.held

shown_at : (f : List ℕ → List ℕ) (c : Contents) (r : ℕ) (front : Front) (d : Damage) → IsDamageAt f c r front d → IsShown c d
shown_at f c r front d (at_log w) = shown_held c 4 (number_text r) d (log_held f c r front d w)
shown_at f c r front d (at_text entry x w) = shown_held c 3 entry.id.0 d (text_held f c r front entry d w)
shown_at f c r front d (at_telling entry l v x t w) = shown_held c 4 (number_text r) d (tell_held f c r front entry v d w)
shown_at f c r front d (at_roster entry l v x t i w) = shown_held c 5 (number_text r) d (roster_held f c r front v d w)

pub first_shown : (f : List ℕ → List ℕ) (c : Contents) (d : Damage) → IsFirstDamage f c d → IsShown c d
first_shown f c d (in_new none w) = shown_break NoRecord c d w
first_shown f c d (in_count w) = subst (IsShown c) (sym w.shown) w.held
first_shown f c d (in_version n count w) = shown_held c 1 version_key d (version_held f c d w)
first_shown f c d (in_meta n count has w) = shown_break IsMetaKey c d w
first_shown f c d (in_others n count has meta w) = shown_break IsUsed c d w
first_shown f c d (in_files n count has meta used w) = shown_break (IsFileRecord f) c d w
first_shown f c d (in_walk n r front begun lt walked w) = shown_at f c r front d w
first_shown f c d (unplaced n front walked w) = shown_break (IsPlacedIn front) c d w
first_shown f c d (in_names n front walked placed w) = shown_break IsNameRecord c d w
first_shown f c d (in_certs n front walked placed names w) = shown_break (IsCertRecord front) c d w
