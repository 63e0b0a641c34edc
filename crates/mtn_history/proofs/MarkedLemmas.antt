-- Rosters by the ids of their revisions, and the ids of positions.
use Rattle.std.specs.Prelude.{IfSome, IfErr, IfOk, MatchBool, is_some, option_map}
use Rattle.std.specs.Int.{w64, to_be_bytes}
use Rattle.std.specs.List.{AllZip}
use Rattle.std.proofs.Common.{◌≡◌, ◌≢◌, ◌≤◌, ◌<◌, ◌+◌, ◌^◌, ℕ, zero, suc, Bool, true, false, List, [], ◌∷◌, ◌++◌, length, get_or, take, Option, Some, None, Result, Ok, Err, refl, sym, ap, ◌∙◌, subst, inl, inr, arith}
use Rattle.std.proofs.lemmas.List.{take_more}
use Rattle.mtn_base.specs.declared.id.Id.{Id}
use Rattle.mtn_roster_deltas.specs.Chain.{Entries}
use Rattle.mtn_history_laws.specs.History.{Revision, IsPlaceOf}
use Rattle.mtn_replay.specs.Making.{place_of}
use Rattle.mtn_replay.proofs.Places.{within}
use Rattle.mtn_replay.proofs.Histories.{log_is_short}
use Rattle.mtn_marking.specs.Graph.{IsMarkedAt}
use Rattle.mtn_marking.specs.Marking.{MarkedTree}
use Rattle.mtn_model.specs.State.{State}
use Rattle.mtn_model.specs.Table.{Contents, body_at}
use Rattle.mtn_ports.specs.Kept.{with_all}
use Rattle.mtn_records.specs.declared.record.LogRecord.{LogRecord}
use Rattle.mtn_ancestry.specs.declared.pos.LogEntry.{LogEntry}
use Rattle.mtn_replay.specs.Graphs.{IsGraphOf}
use Rattle.mtn_records.specs.Fields.{number_text}
use Rattle.mtn_history.specs.declared.errors.Damage.{Damage}
use Rattle.mtn_history.specs.declared.errors.Damage.TheVariants.{Bad, Missing}
use Rattle.mtn_replay.specs.Texts.{text_under}
use Rattle.mtn_history.specs.declared.errors.StoreError.{StoreError}
use Rattle.mtn_history.specs.declared.errors.StoreError.TheVariants.{Failed, Damaged, NoMemory}
use Rattle.mtn_history.specs.declared.errors.HistoryError.{HistoryError}
use Rattle.mtn_history.specs.declared.errors.HistoryError.TheVariants.{Refused, Store}
use Rattle.mtn_history.specs.declared.pending.Pending.{Pending}
use Rattle.mtn_history.specs.Damage.{IsBad, IsDamage}
use Rattle.mtn_history.specs.Errors.{IfDamage, IfStoreDamage}
use Rattle.mtn_history.specs.Logs.{IsHeldAt, IsLogged, IsLogOf, IsReadTo, UnloggedAt}
use Rattle.mtn_history.specs.Marked.{AreHeld, FindsPlace, FindsPlaces, FindsRoster, FindsRosters, IsCounted}
use Rattle.mtn_history.specs.Meta.{Counted, HasOldVersion, IsMetaOf, count_key, version_key}
use Rattle.mtn_history.specs.Places.{IsFoundAt, IsPlaced, UnplacedBelow}
use Rattle.mtn_history.specs.Rosters.{IsChainDown, IsRebuilt, IsRosterHeld, IsRosterThere, Rebuilds, UnmadeBelow}
use Rattle.mtn_records.specs.declared.record.RosterRecord.{RosterRecord}
use Rattle.mtn_records.specs.declared.record.RosterRecord.TheVariants.{Whole, Delta}
use Rattle.mtn_history.specs.Remembered.{RebuiltRoster}
use Rattle.mtn_history.specs.Stands.{Stands, StandsFor, IsNew, IsDraft, IsFounded}
use Rattle.mtn_history.proofs.Founding.{founded, told_of, own, counted, grown, texts_of, log_of, rosters_of}
use Rattle.mtn_history.proofs.LogLemmas.{there, there_kept, read_is, read_tells}
use Rattle.mtn_history.proofs.TextLemmas.{behind, text_found, text_missing}
use Rattle.mtn_history.proofs.MetaLemmas.{held_count, held_version, none_held, told_back, opened_by}
use Rattle.mtn_history.proofs.PlaceLemmas.{placed_is}
use Rattle.mtn_history.proofs.RosterLemmas.{rebuilt_is}

-- no revision stands in a history without any
pub nothing_placed : (h : List Revision) (id : Id) → length h ≡ 0 → place_of h id ≡ None
nothing_placed [] id e = refl
nothing_placed (v ∷ h) id e = absurd (omega arith)

module _ (f : List ℕ → List ℕ) (told : Option Contents) (p : Pending) (s : State) (d : IsFounded f told p s) where
  pub place_is : (id : Id) (at : Option ℕ) (text : List ℕ) → p.count < 2 ^ 64 → IfSome told (λ c. IsPlaced (with_all c p.batch) p.count id at text) → at ≡ place_of d.stands.history id
  place_is id at text fits found =
      placed_is f s.files (own f told p s d 3) s.log d.stands.history d.stands.spelled (texts_of f told p s d) (own f told p s d) refl p.count fits d.count id at text
      (told_of told d.records (λ c. IsPlaced (with_all c p.batch) p.count id at text) d.tells found)

  pub marked_is : (r : ℕ) (es : Entries) (t : MarkedTree) (depth : ℕ) → r < p.count → IfSome told (λ c. IsRebuilt (with_all c p.batch) r es t depth) → IsMarkedAt d.stands.history r t
  marked_is r es t depth lt found =
      let low : r < length d.stands.history = subst (λ n. r < n) (counted f told p s d) lt in
      let v = within d.stands.history r low in
      let k = within d.stands.kept r (subst (λ n. r < n) (sym d.stands.revisions.long) low) in
      (rebuilt_is (own f told p s d) d.stands.history d.stands.kept d.stands.revisions (rosters_of f told p s d) r v.0 k.0 es t depth v.1 k.1
      (told_of told d.records (λ c. IsRebuilt (with_all c p.batch) r es t depth) d.tells found)).1

  pub named_is : (r : ℕ) (log : LogRecord) → r < p.count → IfSome told (λ c. IsLogged (with_all c p.batch) r log) → IsPlaceOf d.stands.history log.id r
  named_is r log lt found =
      let low : r < length d.stands.history = subst (λ n. r < n) (counted f told p s d) lt in
      let t = there (own f told p s d) d.stands.history d.stands.kept (grown f told p s d) d.stands.revisions.long (log_of f told p s d) r low in
      let is = read_is (own f told p s d) d.stands.history d.stands.kept (grown f told p s d) d.stands.revisions.long (log_of f told p s d) r log
      (told_of told d.records (λ c. IsLogged (with_all c p.batch) r log) d.tells found) low in
      (t.0, t.3, sym is.0)

  pub graph_is : (entries : List LogEntry) → IfSome told (λ c. IsReadTo (with_all c p.batch) p.count entries) → IsGraphOf d.stands.history entries
  graph_is entries read =
      read_tells (own f told p s d) d.stands.history d.stands.kept (grown f told p s d) d.stands.revisions.long (log_of f told p s d) entries
      (subst (λ n. IsReadTo (own f told p s d) n entries) (counted f told p s d) (told_of told d.records (λ c. IsReadTo (with_all c p.batch) p.count entries) d.tells read))

  pub log_is : (r : ℕ) (log : LogRecord) → IfSome told (λ c. IsLogged (with_all c p.batch) r log) → r < p.count → IsLogOf d.stands.history d.stands.kept r log
  log_is r log found lt =
      let low : r < length d.stands.history = subst (λ n. r < n) (counted f told p s d) lt in
      let t = there (own f told p s d) d.stands.history d.stands.kept (grown f told p s d) d.stands.revisions.long (log_of f told p s d) r low in
      let is = read_is (own f told p s d) d.stands.history d.stands.kept (grown f told p s d) d.stands.revisions.long (log_of f told p s d) r log
      (told_of told d.records (λ c. IsLogged (with_all c p.batch) r log) d.tells found) low in
      record {
        revision = t.0;
        stands = t.3;
        kept = t.1;
        beside = there_kept (own f told p s d) d.stands.history d.stands.kept (grown f told p s d) d.stands.revisions.long (log_of f told p s d) r low;
        id = is.0;
        next = is.2;
        parents = is.1;
      }

  pub found_text : (id : Id) (at : Option ℕ) (text : List ℕ) → IfSome told (λ c. IsPlaced (with_all c p.batch) p.count id at text) → text_under s.log id.0 ≡ option_map (λ _. text) at
  found_text id None text found = text_missing s.log (own f told p s d 3) id.0 (texts_of f told p s d) (told_of told d.records (λ c. IsPlaced (with_all c p.batch) p.count id None text) d.tells found)
  found_text id (Some r) text found =
      let is = told_of told d.records (λ c. IsPlaced (with_all c p.batch) p.count id (Some r) text) d.tells found in
      (text_found s.log (own f told p s d 3) id.0 (number_text r ++ text) (texts_of f told p s d) is.0).1 ∙ ap Some (behind r text)

  fits : p.count < 2 ^ 64
  fits = omega (arith, d.count, log_is_short f s.files s.log d.stands.history d.stands.spelled)

  -- the same of what a call answers
  pub placed_found : (id : Id) (r : Result (Option ℕ) StoreError) (text : List ℕ) → IfSome told (λ c. IfOk r (λ at. IsPlaced (with_all c p.batch) p.count id at text)) → IfOk r (λ at. IsFoundAt s d.stands.history id at text)
  placed_found id (Err e) text read = tt
  placed_found id (Ok at) text read = (place_is id at text fits read, found_text id at text read)

  pub log_found : (at : ℕ) (r : Result LogRecord StoreError) → IfSome told (λ c. IfOk r (IsLogged (with_all c p.batch) at)) → at < p.count → IfOk r (IsLogOf d.stands.history d.stands.kept at)
  log_found at (Err e) read lt = tt
  log_found at (Ok log) read lt = log_is at log read lt

  pub roster_found : {X : Type 0} (at : ℕ) (r : Result X StoreError) (value : X → RebuiltRoster) → IfSome told (λ c. IfOk r (λ x. Rebuilds (with_all c p.batch) at (value x))) → at < p.count → IfOk r (λ x. IsMarkedAt d.stands.history at (value x).roster)
  roster_found at (Err e) value read lt = tt
  roster_found at (Ok x) value read lt = marked_is at (value x).entries (value x).roster (value x).depth lt read

-- records that count some revisions have both records of table 1
pub counted_some : (b : Bool) (c : Contents) (n : ℕ) → IsMetaOf c (record { count = n; is_new = b }) → n ≢ 0 → Counted c n
counted_some true c n meta some = absurd (some meta.1)
counted_some false c n meta some = meta

-- a record of table 3 with no position, or a roster's that gives no tree, is damage
pub unplaced_damage : (told : Option Contents) (p : Pending) (e : StoreError) → p.count ≢ 0 → IfSome told (λ c. IfDamage e (UnplacedBelow p.count (with_all c p.batch))) →
    IfSome told (λ c. IsCounted p c → IfDamage e (IsDamage (with_all c p.batch)))
unplaced_damage None p e some wrong = tt
unplaced_damage (Some c) p Failed some wrong = λ counts. tt
unplaced_damage (Some c) p NoMemory some wrong = λ counts. tt
unplaced_damage (Some c) p (Damaged d) some wrong = λ counts.
    inr (inr (inr (inr (inl (record { meta = record { count = p.count; is_new = p.is_new }; read = counts; wrong = wrong })))))

not_none : (n at : ℕ) → at < n → n ≢ 0
not_none n at lt e = omega (arith, lt, e)

pub unmade_damage : (told : Option Contents) (p : Pending) (at : ℕ) (e : StoreError) → at < p.count → IfSome told (λ c. IfDamage e (UnmadeBelow (at + 1) (with_all c p.batch))) →
    IfSome told (λ c. IsCounted p c → IfDamage e (IsDamage (with_all c p.batch)))
unmade_damage None p at e lt wrong = tt
unmade_damage (Some c) p at Failed lt wrong = λ counts. tt
unmade_damage (Some c) p at NoMemory lt wrong = λ counts. tt
unmade_damage (Some c) p at (Damaged d) lt wrong = λ counts.
    inr (inr (inr (inl (record {
      count = p.count;
      counted = counted_some p.is_new (with_all c p.batch) p.count counts (not_none p.count at lt);
      wrong = record { place = wrong.place; below = omega (arith, wrong.below, lt); wrong = wrong.wrong };
    }))))

pub unlogged_damage : (told : Option Contents) (p : Pending) (at : ℕ) (e : StoreError) → at < p.count → IfSome told (λ c. IfDamage e (UnloggedAt (with_all c p.batch) at)) →
    IfSome told (λ c. IsCounted p c → IfDamage e (IsDamage (with_all c p.batch)))
unlogged_damage None p at e lt wrong = tt
unlogged_damage (Some c) p at Failed lt wrong = λ counts. tt
unlogged_damage (Some c) p at NoMemory lt wrong = λ counts. tt
unlogged_damage (Some c) p at (Damaged d) lt wrong = λ counts.
    inr (inr (inl (record { count = p.count; counted = counted_some p.is_new (with_all c p.batch) p.count counts (not_none p.count at lt); wrong = record { place = at; below = lt; wrong = inl wrong } })))

-- records that say what the draft counts, and stand for a state, are a draft of it
pub founded_stands : (f : List ℕ → List ℕ) (told : Option Contents) (c : Contents) (p : Pending) (s : State) → told ≡ Some c → IsCounted p c → Stands f (with_all c p.batch) s → IsFounded f told p s
founded_stands f told c p s tells counts stands =
    let o = opened_by p.is_new p.count f (with_all c p.batch) s counts stands in
    founded f told c p s tells (record { count = o.0; stands = o.1 })

-- a record that is there is shown
pub roster_bad : (c : Contents) (r : ℕ) (d : Damage) → IsRosterThere c r → IsRosterHeld c r d → IsBad d
roster_bad c r (Bad table key body) there held = tt
roster_bad c r (Missing table key) there held = absurd (let none : is_some (body_at c 5 (number_text r)) ≡ false = ap is_some (ap (body_at c 5) (sym held.1) ∙ held.2) in cc)

pub log_bad : (c : Contents) (r : ℕ) (log : LogRecord) (d : Damage) → IsLogged c r log → IsHeldAt c r d → IsBad d
log_bad c r log (Bad table key body) read held = tt
log_bad c r log (Missing table key) read held = absurd (let both : None ≡ Some read.body = sym held.2 ∙ ap (body_at c 4) held.1 ∙ read.held in cc)

-- a roster that was rebuilt has its record
pub is_there : (told : Option Contents) (p : Pending) (r : ℕ) (x : RebuiltRoster) → IfSome told (λ c. Rebuilds (with_all c p.batch) r x) → IfSome told (λ c. IsRosterThere (with_all c p.batch) r)
is_there None p r x is = tt
is_there (Some c) p r x is = by is.chain is.down
  where
    by : (chain : List RosterRecord) → IsChainDown (with_all c p.batch) r chain → IsRosterThere (with_all c p.batch) r
    by [] down = absurd down
    by (Whole es ∷ rest) down = ap is_some down.0.held
    by (Delta base depth gone changed ∷ rest) down = ap is_some down.0.held

-- a position that no state's log has
pub past_damage : (told : Option Contents) (p : Pending) (r at : ℕ) (e : StoreError) → r < p.count → IfSome told (λ c. IsRosterThere (with_all c p.batch) r) → p.count ≤ at →
    IfSome told (λ c. IfDamage e (IsRosterHeld (with_all c p.batch) r)) → IfSome told (λ c. IsCounted p c → AreHeld told p (at ∷ []) → IfDamage e (IsDamage (with_all c p.batch)))
past_damage None p r at e low there far held = tt
past_damage (Some c) p r at Failed low there far held = λ counts known. tt
past_damage (Some c) p r at NoMemory low there far held = λ counts known. tt
past_damage (Some c) p r at (Damaged d) low there far held = λ counts known.
    inr (inr (inr (inr (inr (inl (record {
      count = p.count;
      counted = counted_some p.is_new (with_all c p.batch) p.count counts (not_none p.count r low);
      place = r;
      below = low;
      bad = roster_bad (with_all c p.batch) r d there held;
      held = inr held;
      unfit = λ f s stands. let lt : at < p.count = known f s (founded_stands f (Some c) c p s refl counts stands) at (0, omega arith, refl) in omega (arith, lt, far);
    }))))))

-- the count of a draft is what its records say
pub draft_counts : (f : List ℕ → List ℕ) (c : Contents) (p : Pending) (s : State) → IsDraft f c p s → IsCounted p c
draft_counts f c p s draft = by p.is_new p.count (with_all c p.batch) draft.count draft.stands
  where
    eight : (n : ℕ) → length (to_be_bytes w64 n) ≡ 8
    eight n = refl

    not_older : (x : Contents) → IsNew x s → HasOldVersion x → ⊥
    not_older x new old = let none = none_held x s version_key new in cc

    by : (b : Bool) (n : ℕ) (x : Contents) → n ≡ length s.log → MatchBool b (IsNew x s) (StandsFor f x s) → IsMetaOf x (record { count = n; is_new = b })
    by true n x long new = (none_held x s count_key new, long ∙ ap (λ (t : State). length t.log) new.state, not_older x new)
    by false n x long stands = record {
      body = to_be_bytes w64 (length s.log);
      held = held_count f x s stands;
      eight = eight (length s.log);
      number = long ∙ sym (told_back (length s.log) (log_is_short f s.files s.log stands.base.history stands.base.spelled));
      version = held_version f x s stands;
    }

-- an error of the store is one of the call
pub as_error : {T : Type 0} (told : Option Contents) (p : Pending) (r : Result T HistoryError) (e : StoreError) → r ≡ Err (Store e) → IfSome told (λ c. IsCounted p c → IfDamage e (IsDamage (with_all c p.batch))) →
    IfSome told (λ c. IsCounted p c → IfErr r (λ x. IfStoreDamage x (IsDamage (with_all c p.batch))))
as_error told p r e is fact = subst (λ y. IfSome told (λ c. IsCounted p c → IfErr y (λ x. IfStoreDamage x (IsDamage (with_all c p.batch))))) (sym is) fact

-- a call that finds no place goes no further
pub lost_roster : (h : List Revision) (id : Id) (e : HistoryError) → FindsPlace h id (Err e) → FindsRoster h id (Err e)
lost_roster h id (Refused cause) lost = lost
lost_roster h id (Store e) lost = tt

pub first_lost : (h : List Revision) (a b : Id) (e : HistoryError) → FindsPlace h a (Err e) → FindsPlaces h a b (Err e)
first_lost h a b (Refused cause) lost = inl lost
first_lost h a b (Store e) lost = tt

pub second_lost : (h : List Revision) (a b : Id) (at : ℕ) (e : HistoryError) → place_of h a ≡ Some at → FindsPlace h b (Err e) → FindsPlaces h a b (Err e)
second_lost h a b at (Refused cause) place lost = inr (at, place, lost)
second_lost h a b at (Store e) place lost = tt

pub lost_rosters : (h : List Revision) (a b : Id) (e : HistoryError) → FindsPlaces h a b (Err e) → FindsRosters h a b (Err e)
lost_rosters h a b (Refused cause) lost = lost
lost_rosters h a b (Store e) lost = tt

-- the same of an error within this crate, where a state's log has these positions
pub held_error : {T : Type 0} (told : Option Contents) (p : Pending) (places : List ℕ) (r : Result T StoreError) (e : StoreError) → r ≡ Err e → IfSome told (λ c. IsCounted p c → AreHeld told p places → IfDamage e (IsDamage (with_all c p.batch))) →
    IfSome told (λ c. IsCounted p c → AreHeld told p places → IfErr r (λ x. IfDamage x (IsDamage (with_all c p.batch))))
held_error told p places r e is fact = subst (λ y. IfSome told (λ c. IsCounted p c → AreHeld told p places → IfErr y (λ x. IfDamage x (IsDamage (with_all c p.batch))))) (sym is) fact

pub even_held : (told : Option Contents) (p : Pending) (places : List ℕ) (e : StoreError) → IfSome told (λ c. IsCounted p c → IfDamage e (IsDamage (with_all c p.batch))) →
    IfSome told (λ c. IsCounted p c → AreHeld told p places → IfDamage e (IsDamage (with_all c p.batch)))
even_held None p places e fact = tt
even_held (Some c) p places e fact = λ counts known. fact counts

-- one position of some
one_held : (told : Option Contents) (p : Pending) (places : List ℕ) (i x : ℕ) → i < length places → x ≡ get_or places i x → AreHeld told p places → AreHeld told p (x ∷ [])
one_held told p places i x lt is known f s d y (zero, low, at) = known f s d y (i, lt, subst (λ z. get_or places i z ≡ z) at (sym is))
one_held told p places i x lt is known f s d y (suc k, low, at) = absurd (omega (arith, low))

pub item_damage : (told : Option Contents) (p q : Pending) (places : List ℕ) (i x : ℕ) (e : StoreError) → q ≡ p → i < length places → x ≡ get_or places i x →
    IfSome told (λ c. IsCounted q c → AreHeld told q (x ∷ []) → IfDamage e (IsDamage (with_all c q.batch))) →
    IfSome told (λ c. IsCounted p c → AreHeld told p places → IfDamage e (IsDamage (with_all c p.batch)))
item_damage told p q places i x e same lt is fact = by told (subst (λ (z : Pending). IfSome told (λ c. IsCounted z c → AreHeld told z (x ∷ []) → IfDamage e (IsDamage (with_all c z.batch)))) same fact)
  where
    by : (now : Option Contents) → IfSome now (λ c. IsCounted p c → AreHeld now p (x ∷ []) → IfDamage e (IsDamage (with_all c p.batch))) →
        IfSome now (λ c. IsCounted p c → AreHeld now p places → IfDamage e (IsDamage (with_all c p.batch)))
    by None h = tt
    by (Some c) h = λ counts known. h counts (one_held (Some c) p places i x lt is known)

zip_more : {A B : Type 0} (R : A → B → Type 0) (xs : List A) (ys : List B) (x : A) (y : B) → AllZip R xs ys → R x y → AllZip R (xs ++ x ∷ []) (ys ++ y ∷ [])
zip_more R [] [] x y zip also = (also, tt)
zip_more R [] (b ∷ ys) x y zip also = absurd zip
zip_more R (a ∷ xs) [] x y zip also = absurd zip
zip_more R (a ∷ xs) (b ∷ ys) x y zip also = (zip.0, zip_more R xs ys x y zip.1 also)

-- one more position with its id
pub named_more : (h : List Revision) (places : List ℕ) (i x : ℕ) (ids more : List Id) (id : Id) → i < length places → x ≡ get_or places i x → more ≡ ids ++ id ∷ [] →
    AllZip (λ at n. IsPlaceOf h n at) (take i places) ids → IsPlaceOf h id x → AllZip (λ at n. IsPlaceOf h n at) (take (i + 1) places) more
named_more h places i x ids more id lt is grown zip also =
    subst (λ (ns : List Id). AllZip (λ at n. IsPlaceOf h n at) (take (i + 1) places) ns) (sym grown)
    (subst (λ (ps : List ℕ). AllZip (λ at n. IsPlaceOf h n at) ps (ids ++ id ∷ [])) (ap (λ z. take i places ++ z ∷ []) is ∙ sym (take_more places i x lt))
    (zip_more (λ at n. IsPlaceOf h n at) (take i places) ids x id zip also))
