-- The records of a new revision lead to its state.
use Rattle.std.specs.List.{All}
use Rattle.std.proofs.lemmas.Bool.Decides.{nat_tests}
use Rattle.std.specs.Prelude.{IfSome, slice_get, Contains, IsSome, is_some, nat_lt, IsTrue, MatchBool}
use Rattle.std.specs.Option.{option_map_or}
use Rattle.std.proofs.lemmas.List.Elements.{Contains-append_right}
use Rattle.std.proofs.Common.{◌≡◌, ◌<◌, ◌+◌, ◌^◌, ℕ, Bool, true, false, cond, List, [], ◌∷◌, ◌++◌, length, Option, Some, None, refl, sym, ap, ◌∙◌, subst, arith, inl, inr}
use Rattle.mtn_base.specs.Names.{same_id}
use Rattle.mtn_base.specs.declared.id.Id.{Id}
use Rattle.mtn_base.specs.declared.name.NodeName.{NodeName}
use Rattle.mtn_changes.specs.declared.change.Edge.{Edge}
use Rattle.mtn_history_laws.specs.History.{Revision, revision_parents, revision_tree, IsPlaceOf, IsGrown}
use Rattle.mtn_replay.specs.Lawful.{IsNext}
use Rattle.mtn_replay.specs.Making.{made, parents_of}
use Rattle.mtn_replay.proofs.Histories.{kept_at, last_at, history_more, history_is_grown}
use Rattle.mtn_replay.proofs.Places.{within, inside}
use Rattle.mtn_marking.specs.Graph.{IsMarkedAt}
use Rattle.mtn_marking.specs.Marking.{MarkedTree}
use Rattle.mtn_model.specs.State.{Logged, State}
use Rattle.mtn_model.specs.Table.{Contents}
use Rattle.mtn_records.specs.Bounds.{IsRosterAt, IsLogAt}
use Rattle.mtn_records.specs.declared.entry.NumberedEntry.{NumberedEntry}
use Rattle.mtn_records.specs.declared.record.RosterRecord.{RosterRecord}
use Rattle.mtn_records.specs.declared.record.RosterRecord.TheVariants.{Whole}
use Rattle.mtn_roster.specs.Tree.{Tree, entry_of}
use Rattle.mtn_base.proofs.Tests.{same_id-is, same_id-self}
use Rattle.mtn_roster_deltas.specs.Chain.{Entries, ascend, deepest}
use Rattle.mtn_roster_deltas.specs.Difference.{IsDeltaTo, IsDifference}
use Rattle.mtn_roster_deltas.specs.Numbering.{all_of, fresh, number_among, IsNumbering}
use Rattle.mtn_roster_deltas.proofs.Known.{known_is, there_spelled, spelled_there, numbering_over, same_fresh}
use Rattle.mtn_roster_deltas.proofs.Places.{among_was, contains_cons}
use Rattle.mtn_roster_deltas.specs.Spelled.{Spells}
use Rattle.mtn_ports.specs.Kept.{with_all}
use Rattle.mtn_history.specs.Records.{with_revision}
use Rattle.mtn_history.specs.Rosters.{IsRebuilt}
use Rattle.mtn_history.proofs.Accepted.{whole_accepted, delta_accepted}
use Rattle.mtn_history.specs.Revisions.{AreKept, Kept, next_of, all_entries, deeper, depth_on, IsRosterOf, IsRosterBody, IsLogBody}
use Rattle.mtn_history.specs.Stands.{IsDraft, IsFounded}
use Rattle.mtn_history.specs.declared.pending.Pending.{Pending}
use Rattle.mtn_history.proofs.Extending.{Adds, draft_more}
use Rattle.mtn_put_revision.specs.Keeping.{AreKeptAt, AreParents, IsDeltaBody, IsFirstDepth, IsFirstRebuilt, IsLogBodyOf, IsMade, IsNumberedOn, IsRecordOn, with_text}
use Rattle.mtn_put_revision.specs.Writing.{AllAscend}
use Rattle.mtn_put_revision.proofs.Numbers.{all_are_known, parents_known, kept_among, among_entries, entries_of, in_kept, sub_all}

-- a record on the first parent's, or a whole one
abbrev IsOn : List ℕ → List Entries → ℕ → Entries → RosterRecord → Type 0
IsOn (p ∷ ps) (below ∷ more) depth entries r = MatchBool (nat_lt depth deepest) (IsTrue (ascend below) → IsTrue (ascend entries) → IsDeltaTo below p (depth + 1) entries r) (r ≡ Whole entries)
IsOn _ _ depth entries r = r ≡ Whole entries

-- the record of a body
on_of : (places : List ℕ) (known : List Entries) (depth : ℕ) (entries : Entries) (at : ℕ) (body : List ℕ) (deep : ℕ) → IsRecordOn places known depth entries at body deep → (r : RosterRecord) × IsOn places known depth entries r × IsRosterAt at body r
on_of [] known depth entries at body deep is = (Whole entries, refl, is.0)
on_of (p ∷ ps) [] depth entries at body deep is = (Whole entries, refl, is.0)
on_of (p ∷ ps) (below ∷ more) depth entries at body deep is = by (nat_lt depth deepest) is
  where
    by : (b : Bool) → MatchBool b (IsDeltaBody below p (depth + 1) entries at body × (deep ≡ depth + 1)) (IsRosterAt at body (Whole entries) × (deep ≡ 0)) →
        (r : RosterRecord) × MatchBool b (IsTrue (ascend below) → IsTrue (ascend entries) → IsDeltaTo below p (depth + 1) entries r) (r ≡ Whole entries) × IsRosterAt at body r
    by true h = (h.0.roster, h.0.delta, h.0.text)
    by false h = (Whole entries, refl, h.0)

-- a roster stands on the first parent's, or whole
roster_on : (ks : List Kept) (places : List ℕ) (known : List Entries) (depth : ℕ) (k : Kept) (r : RosterRecord) → AreKeptAt ks places known → IsFirstDepth ks places depth → k.depth ≡ depth_on ks places →
    ((es : Entries) → Contains known es → ascend es ≡ true) → ascend k.entries ≡ true → IsOn places known depth k.entries r → IsRosterOf ks places k r
roster_on ks [] [] depth k r are first deep up rises is = subst (IsRosterOf ks [] k) (sym is) (deep, refl)
roster_on ks [] (es ∷ more) depth k r are first deep up rises is = absurd are
roster_on ks (p ∷ ps) [] depth k r are first deep up rises is = absurd are
roster_on ks (p ∷ ps) (es ∷ more) depth k r are first deep up rises is = by (nat_lt depth deepest) refl is
  where
    one_kept : (o : Option Kept) (a b : Kept) → o ≡ Some a → o ≡ Some b → a ≡ b
    one_kept o a b x y = cc

    same : first.0 ≡ are.0.0
    same = one_kept (slice_get ks p) first.0 are.0.0 first.1 are.0.1

    at_depth : depth ≡ are.0.0.depth
    at_depth = first.2 ∙ ap (λ (x : Kept). x.depth) same

    own : k.depth ≡ deeper depth
    own = deep ∙ ap (λ o. option_map_or (λ (x : Kept). deeper x.depth) o 0) are.0.1 ∙ ap deeper (sym at_depth)

    by : (b : Bool) → nat_lt depth deepest ≡ b → MatchBool b (IsTrue (ascend es) → IsTrue (ascend k.entries) → IsDeltaTo es p (depth + 1) k.entries r) (r ≡ Whole k.entries) → IsRosterOf ks (p ∷ ps) k r
    by true test f =
        let d = f (up es (0, omega arith, refl)) rises in
        let deeper_is : depth + 1 ≡ k.depth = sym (own ∙ ap (λ b. cond b (depth + 1) 0) test) in
        subst (IsRosterOf ks (p ∷ ps) k) (sym d.is) (refl, deeper_is, omega arith, (are.0.0, are.0.1, subst (λ (e : Entries). IsDifference e k.entries d.gone d.changed) are.0.2 d.difference))
    by false test e = subst (IsRosterOf ks (p ∷ ps) k) (sym e) (own ∙ ap (λ b. cond b (depth + 1) 0) test, refl)

some_at : {X : Type 0} (o : Option X) → IsSome o → (x : X) × (o ≡ Some x)
some_at None h = absurd cc
some_at (Some x) h = (x, refl)

there_if : {X : Type 0} (o : Option X) (x : X) → o ≡ Some x → IsSome o
there_if o x e = ap is_some e

never_number : (es : Entries) (n : NodeName) → ((e : NumberedEntry) → Contains es e → e.node ≡ n → ⊥) → number_among es n ≡ None
never_number es n none = by (number_among es n) refl
  where
    by : (o : Option ℕ) → number_among es n ≡ o → o ≡ None
    by None e = refl
    by (Some m) e = let f = among_was es n m e in absurd (none f.0 f.1 f.2)

both_numbers : (a b : Option ℕ) (m : ℕ) → a ≡ Some m → b ≡ Some m → a ≡ b
both_numbers a b m x y = x ∙ sym y

module _ (f : List ℕ → List ℕ) (told : Option Contents) (p : Pending) (s : State) (d : IsFounded f told p s) (l : Logged) (v : Revision) (next : IsNext f s.files d.stands.history l v) where
  abbrev h : List Revision
  h = d.stands.history

  abbrev ks : List Kept
  ks = d.stands.kept

  grown_h : IsGrown h
  grown_h = history_is_grown f s.files s.log h d.stands.spelled

  grown_more : IsGrown (h ++ v ∷ [])
  grown_more = history_is_grown f s.files (s.log ++ l ∷ []) (h ++ v ∷ []) (history_more f s.files s.log h l v d.stands.spelled next)

  here : slice_get (h ++ v ∷ []) (length h) ≡ Some v
  here = last_at h v

  -- a node of an earlier tree was born earlier
  born_before : (n : NodeName) (e : NumberedEntry) → Contains (all_of (all_entries ks)) e → e.node ≡ n → IsPlaceOf (h ++ v ∷ []) n.birth (length h) → ⊥
  born_before n e c is new =
      let k = in_kept ks e c in
      let w = within h k.0 (subst (λ m. k.0 < m) d.stands.revisions.long (inside ks k.0 k.1 k.2)) in
      let kept = d.stands.revisions.each k.0 w.0 k.1 w.1 k.2 in
      let node = some_at (entry_of w.0.tree n) (subst (λ m. IsSome (entry_of w.0.tree m)) is (spelled_there k.1.entries (record { tree = w.0.tree; marks = kept.marks }) kept.numbered.spells e k.3)) in
      let b = grown_h.born k.0 n node.0 (ap (λ o. entry_of (revision_tree o) n) w.1 ∙ node.1) in
      let low = inside h b.0 b.1.0 b.1.1 in
      let same : b.0 ≡ length h = grown_more.differ n.birth b.0 (length h) (b.1.0, kept_at h v b.0 low ∙ b.1.1, b.1.2) new in
      omega (arith, same, low)

  -- the entries of a parent that has a node
  in_parents : (places : List ℕ) (known : List Entries) → AreKeptAt ks places known → (q : ℕ) → Contains places q → (k : Kept) × (slice_get ks q ≡ Some k) × Contains known k.entries
  in_parents [] known are q c = absurd (omega (arith, c.1))
  in_parents (x ∷ places) [] are q c = absurd are
  in_parents (x ∷ places) (es ∷ known) are q c = elim (contains_cons x places q c) [
    | inl is ↦ (are.0.0, ap (slice_get ks) (sym is) ∙ are.0.1, (0, omega arith, are.0.2))
    | inr t ↦ let r = in_parents places known are.1 q t in (r.0, r.1, Contains-append_right (es ∷ []) known r.0.entries r.2)
  ]

  -- a node of the new tree has one number among its parents' entries and among all
  module _ (places : List ℕ) (known : List Entries) (are : AreKeptAt ks places known) (stand : places ≡ v.parents) where
    old_node : (n : NodeName) → IsSome (entry_of v.tree n) → (IsPlaceOf (h ++ v ∷ []) n.birth (length h) → ⊥) → number_among (all_of known) n ≡ number_among (all_of (all_entries ks)) n
    old_node n some old =
        let e = some_at (entry_of v.tree n) some in
        let q = grown_more.kept (length h) n e.0 (ap (λ o. entry_of (revision_tree o) n) here ∙ e.1) old in
        let parent : Contains places q.0 = subst (λ ps. Contains ps q.0) (ap revision_parents here ∙ sym stand) q.1 in
        let k = in_parents places known are q.0 parent in
        let low : q.0 < length h = subst (λ m. q.0 < m) d.stands.revisions.long (inside ks q.0 k.0 k.1) in
        let w = within h q.0 low in
        let kept = d.stands.revisions.each q.0 w.0 k.0 w.1 k.1 in
        let in_tree : IsSome (entry_of w.0.tree n) = subst (λ o. IsSome (entry_of (revision_tree o) n)) (kept_at h v q.0 low ∙ w.1) q.2 in
        let x = there_spelled k.0.entries (record { tree = w.0.tree; marks = kept.marks }) kept.numbered.spells n in_tree in
        both_numbers _ _ x.0.number
        (known_is known (next_of ks) k.0.entries x.0 n (parents_known f s.files s.log h ks d.stands.spelled d.stands.revisions places known are) k.2 x.1 x.2)
        (known_is (all_entries ks) (next_of ks) k.0.entries x.0 n (all_are_known f s.files s.log h ks d.stands.spelled d.stands.revisions) (among_entries q.0 k.0 ks k.1) x.1 x.2)

    new_node : (n : NodeName) → IsPlaceOf (h ++ v ∷ []) n.birth (length h) → number_among (all_of known) n ≡ number_among (all_of (all_entries ks)) n
    new_node n new =
        never_number (all_of known) n (λ e c is. born_before n e (sub_all ks places known are e c) is new)
        ∙ sym (never_number (all_of (all_entries ks)) n (λ e c is. born_before n e c is new))

    pub same_number : (n : NodeName) → IsSome (entry_of v.tree n) → number_among (all_of known) n ≡ number_among (all_of (all_entries ks)) n
    same_number n some = by (same_id v.id n.birth) refl
      where
        by : (b : Bool) → same_id v.id n.birth ≡ b → number_among (all_of known) n ≡ number_among (all_of (all_entries ks)) n
        by true e = new_node n (v, here, same_id-is v.id n.birth e)
        by false e = old_node n some (λ at. absurd (let t : true ≡ false = sym (ap (λ (i : Id). same_id i n.birth) (at_last at) ∙ same_id-self n.birth) ∙ e in cc))
          where
            one : (o : Option Revision) (a b : Revision) → o ≡ Some a → o ≡ Some b → a ≡ b
            one o a b x y = cc

            at_last : IsPlaceOf (h ++ v ∷ []) n.birth (length h) → v.id ≡ n.birth
            at_last at = ap (λ (r : Revision). r.id) (one (slice_get (h ++ v ∷ []) (length h)) v at.0 here at.1) ∙ at.2

small : (n : ℕ) → n < 2147483648 → n < 2 ^ 64
small n lt = omega (arith, lt)

-- the entries of parents ascend
pub known_ascend : (h : List Revision) (ks : List Kept) → AreKept h ks → (places : List ℕ) (known : List Entries) → AreKeptAt ks places known → AllAscend known
known_ascend h ks kept places known are es c =
    let k = entries_of ks es (kept_among ks places known are es c) in
    let w = within h k.0 (subst (λ m. k.0 < m) kept.long (inside ks k.0 k.1 k.2)) in
    subst (λ (x : Entries). ascend x ≡ true) k.3 (kept.each k.0 w.0 k.1 w.1 k.2).numbered.spells.ascending

-- the draft with the records of a revision stands for the state with its text
pub kept_draft : (f : List ℕ → List ℕ) (told : Option Contents) (p : Pending) (s : State) (d : IsFounded f told p s) (id : Id) (text : List ℕ) (edges : List Edge) (t : MarkedTree) (places : List ℕ) (known : List Entries)
    (depth free deep : ℕ) (entries : Entries) (roster log : List ℕ) (q : Pending) → p.count < 2147483648 → IsNumberedOn d.stands.kept known t entries free → IsRecordOn places known depth entries p.count roster deep →
    IsLogBodyOf id free places p.count log → q ≡ with_revision p (record { id = id.0; text = text }) log roster → IsMade d.stands.history edges id t → AreParents d.stands.history d.stands.kept edges places known depth →
    IsNext f s.files d.stands.history (record { id = id.0; text = text }) (made d.stands.history id edges) → IsDraft f d.records q (with_text s (record { id = id.0; text = text }))
kept_draft f told p s d id text edges t places known depth free deep entries roster log q low is_numbered written log_at put made_is parents accepted =
    let record_is = on_of places known depth entries p.count roster deep written in
    let r = record_is.0 in
    let hist = d.stands.history in
    let kepts = d.stands.kept in
    let l : Logged = record { id = id.0; text = text } in
    let v = made hist id edges in
    let new : Kept = record { entries = entries; next = free; depth = depth_on kepts (parents_of hist edges) } in
    let are = parents_known f s.files s.log hist kepts d.stands.spelled d.stands.revisions places known parents.kept in
    let numbered = is_numbered.numbers are in
    let same = λ (n : NodeName) (some : IsSome (entry_of t.tree n)). same_number f told p s d l v accepted places known parents.kept parents.stand n (subst (λ (tr : Tree). IsSome (entry_of tr n)) made_is.tree some) in
    let over_all = numbering_over known (all_entries kepts) (next_of kepts) t entries same numbered in
    let eta : t ≡ record { tree = v.tree; marks = t.marks } = ap (λ (tr : Tree). record { tree = tr; marks = t.marks }) made_is.tree in
    let adds : Adds hist kepts v new = record {
      marks = t.marks;
      marked = subst (IsMarkedAt (hist ++ v ∷ []) (length hist)) eta made_is.marked;
      numbered = subst (λ (u : MarkedTree). IsNumbering (all_entries kepts) (next_of kepts) u entries) eta over_all;
      next = is_numbered.next are ∙ ap (λ (ns : List NodeName). next_of kepts + length ns) (same_fresh known (all_entries kepts) t.tree same)
          ∙ ap (λ (tr : Tree). next_of kepts + length (fresh (all_entries kepts) tr)) made_is.tree;
      depth = refl;
    } in
    let up = known_ascend d.stands.history d.stands.kept d.stands.revisions places known parents.kept in
    let on = subst (λ ps. IsRosterOf kepts ps new r) parents.stand
    (roster_on kepts places known depth new r parents.kept parents.deep (ap (depth_on kepts) (sym parents.stand)) up numbered.spells.ascending record_is.1) in
    let body : IsRosterBody kepts (length s.log) v new roster = record { roster = r; is = on; text = subst (λ n. IsRosterAt n roster r) d.count record_is.2 } in
    let line : IsLogBody (length s.log) v new log = record { parents = log_at.parents; same = log_at.same ∙ parents.stand; text = subst (λ n. IsLogAt n log (record { id = id; next_node = free; parents = log_at.parents })) d.count log_at.text } in
    subst (λ (x : Pending). IsDraft f d.records x (with_text s l)) (sym put)
    (draft_more f told p s l v new log roster d (subst (λ n. n < 2 ^ 64) d.count (small p.count low)) accepted adds line body)

-- the roster of the new revision is what the records give with it
pub new_rebuilt : (told : Option Contents) (p : Pending) (l : Logged) (log roster : List ℕ) (places : List ℕ) (known : List Entries) (depth deep : ℕ) (entries : Entries) (t : MarkedTree) → p.count < 2147483648 →
    All (λ q. q < p.count) places → Spells entries t → IsRecordOn places known depth entries p.count roster deep → IfSome told (λ c. IsFirstRebuilt (with_all c p.batch) places known depth) →
    IfSome told (λ c. IsRebuilt (with_all c (with_revision p l log roster).batch) p.count entries t deep)
new_rebuilt None p l log roster places known depth deep entries t low below spells written first = tt
new_rebuilt (Some c) p l log roster places known depth deep entries t low below spells written first = by places known below first written
  where
    room : p.count < 2 ^ 63
    room = omega (arith, low)

    all_whole : IsRosterAt p.count roster (Whole entries) × (deep ≡ 0) → IsRebuilt (with_all c (with_revision p l log roster).batch) p.count entries t deep
    all_whole w = subst (IsRebuilt (with_all c (with_revision p l log roster).batch) p.count entries t) (sym w.1) (whole_accepted c p l log roster room entries t spells w.0)

    on_delta : (q : ℕ) (es : Entries) (u : MarkedTree) → q < p.count → IsRebuilt (with_all c p.batch) q es u depth → (b : Bool) → nat_lt depth deepest ≡ b →
        MatchBool b (IsDeltaBody es q (depth + 1) entries p.count roster × (deep ≡ depth + 1)) (IsRosterAt p.count roster (Whole entries) × (deep ≡ 0)) → IsRebuilt (with_all c (with_revision p l log roster).batch) p.count entries t deep
    on_delta q es u lt is true test w =
        let delta = w.0.delta is.spelled.ascending spells.ascending in
        subst (IsRebuilt (with_all c (with_revision p l log roster).batch) p.count entries t) (sym w.1)
        (delta_accepted c p l log roster room entries t spells q depth es u delta.gone delta.changed lt (grind (arith, nat_tests)) is delta.difference (subst (IsRosterAt p.count roster) delta.is w.0.text))
    on_delta q es u lt is false test w = all_whole w

    by : (places : List ℕ) (known : List Entries) → All (λ q. q < p.count) places → IsFirstRebuilt (with_all c p.batch) places known depth → IsRecordOn places known depth entries p.count roster deep →
        IsRebuilt (with_all c (with_revision p l log roster).batch) p.count entries t deep
    by [] known below first w = all_whole w
    by (q ∷ qs) [] below first w = all_whole w
    by (q ∷ qs) (es ∷ more) below first w = on_delta q es first.0 (below 0 0 (omega arith)) first.1 (nat_lt depth deepest) refl w
