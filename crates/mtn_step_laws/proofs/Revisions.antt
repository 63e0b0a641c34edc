-- Each text spells a revision, or has a fault.
use Rattle.std.specs.Prelude.{map}
use Rattle.std.specs.List.{flat_map}
use Rattle.std.specs.declared.cmp.Ordering.{Ordering}
use Rattle.std.specs.declared.cmp.Ordering.TheVariants.{Less, Equal, Greater}
use Rattle.std.proofs.Common.{◌≡◌, ◌≢◌, ◌<◌, ◌+◌, ◌⊎◌, ℕ, zero, suc, Bool, true, false, List, [], ◌∷◌, ◌++◌, length, take, get_or, Option, Some, None, refl, sym, ap, ◌∙◌, inl, inr, subst, append_assoc, arith}
use Rattle.std.proofs.Math.Decide.{ℕ_discrete}
use Rattle.std.proofs.lemmas.Bool.{cases_lt}
use Rattle.std.proofs.lemmas.List.{append-nil, length-append, map-append, take-append-le}
use Rattle.mtn_base.specs.Names.{bytes_cmp}
use Rattle.mtn_base.specs.declared.id.Id.{Id}
use Rattle.mtn_basic_io.specs.Spelling.{LineText, AreStanzas, spelling}
use Rattle.mtn_changes.specs.Changes.{IsChange, rank}
use Rattle.mtn_changes.specs.ChangesText.{AreChanges}
use Rattle.mtn_changes.specs.Heads.{head_rank, head_stanza, IsHeadRead}
use Rattle.mtn_changes.specs.Lists.{IsFault, StandsBehind, is_taken, last_rank}
use Rattle.mtn_changes.specs.RevisionText.{AreEdges, Ascend, IsFront, IsHeadFault, IsNextFault, IsRevision, IsRevisionFault, IsStanzasFault, IsWrongAt, edge_stanzas}
use Rattle.mtn_changes.specs.Stanzas.{IsRead, stanza_of}
use Rattle.mtn_changes.specs.declared.change.Change.{Change}
use Rattle.mtn_changes.specs.declared.change.Edge.{Edge}
use Rattle.mtn_changes.specs.declared.change.Revision.{Revision}
use Rattle.mtn_changes.specs.declared.error.ChangeTextError.{ChangeTextError}
use Rattle.mtn_changes.specs.declared.error.ChangeTextError.TheVariants.{NotText, BadStanza, BadOrder, Repeated, BadEdge, NoMemory}
use Rattle.mtn_changes.specs.declared.head.Head.{Head}
use Rattle.mtn_changes.specs.declared.head.Head.TheVariants.{Version, Manifest, Parent}
use Rattle.mtn_changes.specs.declared.order.Fault.{Fault}
use Rattle.mtn_changes.specs.declared.order.Fault.TheVariants as one
use Rattle.mtn_changes.proofs.Decoded.{one_head}
use Rattle.mtn_replay.specs.Lawful.{Spells}
use Rattle.mtn_merge_laws.proofs.Telling.{tell_most, tell_test}
use Rattle.mtn_step_laws.proofs.Telling.{read_change, read_head}
use Rattle.mtn_merge_laws.proofs.Texts.{stanzas_or_offset}

-- what a list of stanzas comes to
abbrev pub IsDecided : List (List LineText) → Type 0
IsDecided ss = ((r : Revision) × IsRevision ss r) ⊎ ((e : ChangeTextError) × (e ≢ NoMemory) × IsStanzasFault ss e)

-- ---- one stanza behind changes

data Next (before : List Change) (s : List LineText) : Type 0 where
  stands : (c : Change) → s ≡ stanza_of c → StandsBehind before c → Next before s
  bad : IsFault before s one.BadStanza → Next before s
  misplaced : IsFault before s one.BadOrder → Next before s
  again : IsFault before s one.Repeated → Next before s

next_change : (before : List Change) (s : List LineText) (c : Change) → IsChange c → s ≡ stanza_of c → Next before s
next_change before s c is same = elim (tell_most (last_rank before) (rank c)) [
  | yes le ↦ elim (tell_test (is_taken before c) true) [
    | yes taken ↦ again (c, is, same, le, taken)
    | no n ↦ stands c same (record { lawful = is; ordered = le; fresh = untaken (is_taken before c) n })
  ]
  | no n ↦ misplaced (inr (c, is, same, omega (arith, n)))
]
  where
    untaken : (b : Bool) → ¬ (b ≡ true) → b ≡ false
    untaken true n = absurd (n refl)
    untaken false n = refl

next_of : (before : List Change) (s : List LineText) → Next before s
next_of before s = by (read_change s).0 (read_change s).1 (read_head s).0 (read_head s).1
  where
    by : (o : Option Change) → IsRead s o → (h : Option Head) → IsHeadRead s h → Next before s
    by (Some c) read h head = next_change before s c read.0 read.1
    by None read (Some h) head = misplaced (inl (h, head))
    by None read None head = bad (read, head)

-- one more change
changes_more : (cs : List Change) (c : Change) → AreChanges cs → StandsBehind cs c → AreChanges (cs ++ c ∷ [])
changes_more cs c lawful is k d lt = elim (cases_lt k (length cs)) [
  | inl before ↦ subst (λ (bs : List Change). StandsBehind bs (get_or (cs ++ c ∷ []) k d)) (sym (take-append-le k cs (c ∷ []) (omega (arith, before))))
      (subst (λ (x : Change). StandsBehind (take k cs) x) (sym (get_front cs c d k before)) (lawful k d before))
  | inr le ↦ let at : k ≡ length cs = omega (arith, le, lt, length-append cs (c ∷ [])) in
      subst (λ n. StandsBehind (take n (cs ++ c ∷ [])) (get_or (cs ++ c ∷ []) n d)) (sym at)
      (subst (λ (bs : List Change). StandsBehind bs (get_or (cs ++ c ∷ []) (length cs) d)) (sym (take_front cs c)) (subst (λ (x : Change). StandsBehind cs x) (sym (get_last cs c d)) is))
]
  where
    get_front : (cs : List Change) (c d : Change) (k : ℕ) → k < length cs → get_or (cs ++ c ∷ []) k d ≡ get_or cs k d
    get_front [] c d k lt = absurd (omega (arith, lt))
    get_front (b ∷ cs) c d zero lt = refl
    get_front (b ∷ cs) c d (suc k) lt = get_front cs c d k (omega (arith, lt))

    get_last : (cs : List Change) (c d : Change) → get_or (cs ++ c ∷ []) (length cs) d ≡ c
    get_last [] c d = refl
    get_last (b ∷ cs) c d = get_last cs c d

    take_front : (cs : List Change) (c : Change) → take (length cs) (cs ++ c ∷ []) ≡ cs
    take_front [] c = refl
    take_front (b ∷ cs) c = ap (λ ds. b ∷ ds) (take_front cs c)

-- ---- fronts of a revision

abbrev spelled : List Head → List Edge → List (List LineText)
spelled heads edges = map head_stanza heads ++ flat_map edge_stanzas edges

wrong : (ss : List (List LineText)) (heads : List Head) (edges : List Edge) (s : List LineText) (rest : List (List LineText)) (why : Fault) → IsFront heads edges → ss ≡ map head_stanza heads ++ flat_map edge_stanzas edges ++ s ∷ rest →
    IsNextFault heads edges s why → IsWrongAt ss (length heads + length (flat_map edge_stanzas edges) + 1) why
wrong ss heads edges s rest why front whole fault = record { heads = heads; edges = edges; stanza = s; rest = rest; lawful = front; whole = whole; place = refl; fault = fault }

bad_stanza : (ss : List (List LineText)) (number : ℕ) → IsWrongAt ss number one.BadStanza → IsDecided ss
bad_stanza ss number w = inr (BadStanza number, (λ e. cc), w)

bad_order : (ss : List (List LineText)) (number : ℕ) → IsWrongAt ss number one.BadOrder → IsDecided ss
bad_order ss number w = inr (BadOrder number, (λ e. cc), inl w)

repeats : (ss : List (List LineText)) (number : ℕ) → IsWrongAt ss number one.Repeated → IsDecided ss
repeats ss number w = inr (Repeated number, (λ e. cc), w)

bad_edge : (ss : List (List LineText)) (number : ℕ) → IsWrongAt ss number one.BadEdge → IsDecided ss
bad_edge ss number w = inr (BadEdge number, (λ e. cc), w)

early : (ss : List (List LineText)) (heads : List Head) → IsFront heads [] → ss ≡ map head_stanza heads → IsDecided ss
early ss heads front whole = inr (BadOrder (length heads + 1), (λ e. cc), inr (record { heads = heads; lawful = front; whole = whole; place = refl }))

tell_ascend : (a b : Option Id) → Dec (Ascend a b)
tell_ascend (Some a) (Some b) = by (bytes_cmp a.0 b.0)
  where
    by : (o : Ordering) → Dec (o ≡ Less)
    by Less = yes refl
    by Equal = no (λ e. cc)
    by Greater = no (λ e. cc)
tell_ascend (Some a) None = no (λ x. x)
tell_ascend None b = no (λ x. x)

abbrev edge_of : Option Id → List Change → Edge
edge_of parent changes = record { parent = parent; changes = changes }

-- an `old_revision`, or none
tell_parent : (s : List LineText) → ((p : Option Id) × (s ≡ head_stanza (Parent p))) ⊎ ((p : Option Id) → s ≡ head_stanza (Parent p) → ⊥)
tell_parent s = by (read_head s).0 (read_head s).1
  where
    by : (h : Option Head) → IsHeadRead s h → ((p : Option Id) × (s ≡ head_stanza (Parent p))) ⊎ ((p : Option Id) → s ≡ head_stanza (Parent p) → ⊥)
    by None never = inr (λ p e. never (Parent p) e)
    by (Some Version) is = inr (λ p e. absurd (let f : Version ≡ Parent p = one_head Version (Parent p) (sym is ∙ e) in cc))
    by (Some (Manifest id)) is = inr (λ p e. absurd (let f : Manifest id ≡ Parent p = one_head (Manifest id) (Parent p) (sym is ∙ e) in cc))
    by (Some (Parent p)) is = inl (p, is)

no_changes : AreChanges []
no_changes k d lt = absurd (omega (arith, lt))

-- the stanzas of one more change
edge_more : (parent : Option Id) (cs : List Change) (c : Change) (rest : List (List LineText)) → edge_stanzas (edge_of parent cs) ++ stanza_of c ∷ rest ≡ edge_stanzas (edge_of parent (cs ++ c ∷ [])) ++ rest
edge_more parent cs c rest =
    ap (λ xs. head_stanza (Parent parent) ∷ xs) (sym (append_assoc (map stanza_of cs) (stanza_of c ∷ []) rest) ∙ ap (λ xs. xs ++ rest) (sym (map-append stanza_of cs (c ∷ []))))

module _ (ss : List (List LineText)) (id : Id) where
  abbrev heads : List Head
  heads = Version ∷ Manifest id ∷ []

  abbrev opening : List (List LineText) → List (List LineText)
  opening more = head_stanza Version ∷ head_stanza (Manifest id) ∷ more

  ended : (edges : List Edge) → AreEdges edges → ss ≡ opening (flat_map edge_stanzas edges) → IsDecided ss
  ended edges lawful whole = inl (record { manifest = id; edges = edges }, record { lawful = lawful; spelled = whole })

  -- the second edge
  second : (e : Edge) (parent : Option Id) (cs : List Change) (rest : List (List LineText)) → AreChanges e.changes → AreChanges cs → Ascend e.parent parent →
      ss ≡ opening (edge_stanzas e ++ (edge_stanzas (edge_of parent cs) ++ rest)) → IsDecided ss
  second e parent cs [] fine lawful up whole =
      ended (e ∷ edge_of parent cs ∷ []) (fine, lawful, up) whole
  second e parent cs (s ∷ rest) fine lawful up whole = by (next_of cs s) (λ c more is. second e parent (cs ++ c ∷ []) rest fine more up is)
    where
      f : Edge
      f = edge_of parent cs

      front : IsFront heads (e ∷ f ∷ [])
      front = (fine, lawful, up)

      split : ss ≡ map head_stanza heads ++ flat_map edge_stanzas (e ∷ f ∷ []) ++ s ∷ rest
      split = whole ∙ ap (λ xs. opening xs) (ap (λ xs. edge_stanzas e ++ (xs ++ s ∷ rest)) (sym (append-nil (edge_stanzas f))) ∙ sym (append_assoc (edge_stanzas e) (edge_stanzas f ++ []) (s ∷ rest)))

      by : Next cs s → ((c : Change) → AreChanges (cs ++ c ∷ []) → ss ≡ opening (edge_stanzas e ++ (edge_stanzas (edge_of parent (cs ++ c ∷ [])) ++ rest)) → IsDecided ss) → IsDecided ss
      by (stands c same is) later = later c (changes_more cs c lawful is)
          (whole ∙ ap (λ (x : List LineText). opening (edge_stanzas e ++ (edge_stanzas f ++ x ∷ rest))) same ∙ ap (λ xs. opening (edge_stanzas e ++ xs)) (edge_more parent cs c rest))
      by (bad w) later = bad_stanza ss _ (wrong ss heads (e ∷ f ∷ []) s rest one.BadStanza front split w)
      by (misplaced w) later = bad_order ss _ (wrong ss heads (e ∷ f ∷ []) s rest one.BadOrder front split w)
      by (again w) later = repeats ss _ (wrong ss heads (e ∷ f ∷ []) s rest one.Repeated front split w)

  -- the first
  first : (parent : Option Id) (cs : List Change) (rest : List (List LineText)) → AreChanges cs → ss ≡ opening (edge_stanzas (edge_of parent cs) ++ rest) → IsDecided ss
  first parent cs [] lawful whole = ended (edge_of parent cs ∷ []) lawful whole
  first parent cs (s ∷ rest) lawful whole = by (tell_parent s) (λ c more is. first parent (cs ++ c ∷ []) rest more is)
    where
      e : Edge
      e = edge_of parent cs

      split : ss ≡ map head_stanza heads ++ flat_map edge_stanzas (e ∷ []) ++ s ∷ rest
      split = whole ∙ ap (λ xs. opening (xs ++ s ∷ rest)) (sym (append-nil (edge_stanzas e)))

      next : Next cs s → ((p : Option Id) → s ≡ head_stanza (Parent p) → ⊥) → ((c : Change) → AreChanges (cs ++ c ∷ []) → ss ≡ opening (edge_stanzas (edge_of parent (cs ++ c ∷ [])) ++ rest) → IsDecided ss) → IsDecided ss
      next (stands c same is) none later = later c (changes_more cs c lawful is)
          (whole ∙ ap (λ (x : List LineText). opening (edge_stanzas e ++ x ∷ rest)) same ∙ ap (λ xs. opening xs) (edge_more parent cs c rest))
      next (bad w) none later = bad_stanza ss _ (wrong ss heads (e ∷ []) s rest one.BadStanza lawful split (w, none))
      next (misplaced w) none later = bad_order ss _ (wrong ss heads (e ∷ []) s rest one.BadOrder lawful split (w, none))
      next (again w) none later = repeats ss _ (wrong ss heads (e ∷ []) s rest one.Repeated lawful split (w, none))

      other : (p : Option Id) → s ≡ head_stanza (Parent p) → Dec (Ascend parent p) → IsDecided ss
      other p same (yes up) = second e p [] rest lawful no_changes up (whole ∙ ap (λ (x : List LineText). opening (edge_stanzas e ++ x ∷ rest)) same)
      other p same (no n) = bad_edge ss _ (wrong ss heads (e ∷ []) s rest one.BadEdge lawful split (p, same, n))

      by : ((p : Option Id) × (s ≡ head_stanza (Parent p))) ⊎ ((p : Option Id) → s ≡ head_stanza (Parent p) → ⊥) → ((c : Change) → AreChanges (cs ++ c ∷ []) → ss ≡ opening (edge_stanzas (edge_of parent (cs ++ c ∷ [])) ++ rest) → IsDecided ss) → IsDecided ss
      by (inl is) later = other is.0 is.1 (tell_ascend parent is.0)
      by (inr none) later = next (next_of cs s) none later

-- a stanza where a head has to stand
data NextHead (r : ℕ) (s : List LineText) : Type 0 where
  right : (h : Head) → head_rank h ≡ r → s ≡ head_stanza h → NextHead r s
  no_head : IsHeadFault r s one.BadStanza → NextHead r s
  other_head : IsHeadFault r s one.BadOrder → NextHead r s

next_head : (r : ℕ) (s : List LineText) → NextHead r s
next_head r s = by (read_head s).0 (read_head s).1 (read_change s).0 (read_change s).1
  where
    by : (h : Option Head) → IsHeadRead s h → (o : Option Change) → IsRead s o → NextHead r s
    by (Some h) is o read = elim (ℕ_discrete (head_rank h) r) [ yes e ↦ right h e is | no n ↦ other_head (inl (h, is, n)) ]
    by None is (Some c) read = other_head (inr (c, read.0, read.1))
    by None is None read = no_head (read, is)

module _ (ss : List (List LineText)) where
  third : (id : Id) (rest : List (List LineText)) → ss ≡ head_stanza Version ∷ head_stanza (Manifest id) ∷ rest → IsDecided ss
  third id [] whole = early ss (Version ∷ Manifest id ∷ []) tt whole
  third id (s ∷ rest) whole = by (next_head 3 s)
    where
      by : NextHead 3 s → IsDecided ss
      by (right Version e same) = absurd (omega (arith, e))
      by (right (Manifest m) e same) = absurd (omega (arith, e))
      by (right (Parent p) e same) = first ss id p [] rest no_changes (whole ∙ ap (λ (x : List LineText). head_stanza Version ∷ head_stanza (Manifest id) ∷ x ∷ rest) same)
      by (no_head w) = bad_stanza ss _ (wrong ss (Version ∷ Manifest id ∷ []) [] s rest one.BadStanza tt whole w)
      by (other_head w) = bad_order ss _ (wrong ss (Version ∷ Manifest id ∷ []) [] s rest one.BadOrder tt whole w)

  second_head : (rest : List (List LineText)) → ss ≡ head_stanza Version ∷ rest → IsDecided ss
  second_head [] whole = early ss (Version ∷ []) tt whole
  second_head (s ∷ rest) whole = by (next_head 2 s)
    where
      by : NextHead 2 s → IsDecided ss
      by (right Version e same) = absurd (omega (arith, e))
      by (right (Manifest m) e same) = third m rest (whole ∙ ap (λ (x : List LineText). head_stanza Version ∷ x ∷ rest) same)
      by (right (Parent p) e same) = absurd (omega (arith, e))
      by (no_head w) = bad_stanza ss _ (wrong ss (Version ∷ []) [] s rest one.BadStanza tt whole w)
      by (other_head w) = bad_order ss _ (wrong ss (Version ∷ []) [] s rest one.BadOrder tt whole w)

  first_head : (rest : List (List LineText)) → ss ≡ rest → IsDecided ss
  first_head [] whole = early ss [] tt whole
  first_head (s ∷ rest) whole = by (next_head 1 s)
    where
      by : NextHead 1 s → IsDecided ss
      by (right Version e same) = second_head rest (whole ∙ ap (λ (x : List LineText). x ∷ rest) same)
      by (right (Manifest m) e same) = absurd (omega (arith, e))
      by (right (Parent p) e same) = absurd (omega (arith, e))
      by (no_head w) = bad_stanza ss _ (wrong ss [] [] s rest one.BadStanza tt whole w)
      by (other_head w) = bad_order ss _ (wrong ss [] [] s rest one.BadOrder tt whole w)

  pub decided : IsDecided ss
  decided = first_head ss refl

-- ---- texts

pub spells_or_fault : (text : List ℕ) → ((r : Revision) × Spells text r) ⊎ ((e : ChangeTextError) × (e ≢ NoMemory) × IsRevisionFault text e)
spells_or_fault text = elim (stanzas_or_offset text) [
  | inl t ↦ by t.0 t.1 t.2 (decided t.0)
  | inr none ↦ inr (NotText none.0, (λ e. cc), none.1)
]
  where
    faulty : (ss : List (List LineText)) → AreStanzas ss → text ≡ spelling ss → (e : ChangeTextError) → e ≢ NoMemory → IsStanzasFault ss e → IsRevisionFault text e
    faulty ss ok same (NotText offset) some f = absurd f
    faulty ss ok same (BadStanza number) some f = (ss, ok, same, f)
    faulty ss ok same (BadOrder number) some f = (ss, ok, same, f)
    faulty ss ok same (Repeated number) some f = (ss, ok, same, f)
    faulty ss ok same (BadEdge number) some f = (ss, ok, same, f)
    faulty ss ok same NoMemory some f = tt

    by : (ss : List (List LineText)) → AreStanzas ss → text ≡ spelling ss → IsDecided ss → ((r : Revision) × Spells text r) ⊎ ((e : ChangeTextError) × (e ≢ NoMemory) × IsRevisionFault text e)
    by ss ok same (inl r) = inl (
      r.0,
      record {
        reads = record { lawful = r.1.lawful; spelled = same ∙ ap spelling r.1.spelled };
        stanzas = subst AreStanzas r.1.spelled ok;
      },
    )
    by ss ok same (inr e) = inr (e.0, e.1, faulty ss ok same e.0 e.1 e.2)
