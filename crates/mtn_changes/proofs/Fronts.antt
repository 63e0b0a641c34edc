-- How a revision may go on.
use Rattle.std.proofs.Common.{◌≡◌, ℕ, suc, ◌+◌, ◌<◌, List, [], ◌∷◌, ◌++◌, length, get_or, take, drop, map, Option, Some, None, refl, sym, ap, subst, ◌∙◌, inl, arith}
use Rattle.std.specs.Prelude.{◌==◌, Bool, false}
use Rattle.std.specs.List.{flat_map}
use Rattle.std.proofs.lemmas.List.{length-take-le, length-map, length-drop}
use Rattle.mtn_base.specs.declared.id.Id.{Id}
use Rattle.mtn_basic_io.specs.Spelling.{LineText}
use Rattle.mtn_changes.specs.declared.change.Change.{Change}
use Rattle.mtn_changes.specs.declared.change.Edge.{Edge}
use Rattle.mtn_changes.specs.declared.head.Head.{Head}
use Rattle.mtn_changes.specs.declared.head.Head.TheVariants.{Version, Manifest, Parent}
use Rattle.mtn_changes.specs.declared.order.Fault.{Fault}
use Rattle.mtn_changes.specs.declared.order.Fault.TheVariants.{BadStanza, BadOrder, Repeated, BadEdge, NoMemory}
use Rattle.mtn_changes.specs.declared.error.ChangeTextError.{ChangeTextError}
use Rattle.mtn_changes.specs.Stanzas.{stanza_of}
use Rattle.mtn_changes.specs.Heads.{head_stanza, head_rank, IsParentRead}
use Rattle.mtn_changes.specs.Faults.{numbered_of}
use Rattle.mtn_changes.specs.Lists.{IsFault}
use Rattle.mtn_changes.specs.ChangesText.{AreChanges}
use Rattle.mtn_changes.specs.RevisionText.{edge_stanzas, IsFront, IsHeadFault, IsNextFault, EndsEarly, IsStanzasFault}
use Rattle.mtn_changes.specs.Runs.{IsOpening, IsRunFaultAt, IsRunFault, EndsRun}
use Rattle.mtn_changes.proofs.Parts.{cut_at}

-- an `old_revision` is the only head of its rank
pub not_parent : (s : List LineText) → IsParentRead s None → (h : Head) → head_rank h ≡ 3 → s ≡ head_stanza h → ⊥
not_parent s none Version rank same = omega (arith, rank)
not_parent s none (Manifest id) rank same = omega (arith, rank)
not_parent s none (Parent id) rank same = none id same

-- a stanza that may not follow a front, by its number
pub wrong : (ss : List (List LineText)) (heads : List Head) (edges : List Edge) (s : List LineText) (rest : List (List LineText)) (why : Fault) (number : ℕ) (e : ChangeTextError) → IsFront heads edges
    → ss ≡ map head_stanza heads ++ flat_map edge_stanzas edges ++ s ∷ rest → number ≡ length heads + length (flat_map edge_stanzas edges) + 1 → IsNextFault heads edges s why → e ≡ numbered_of why number
    → IsStanzasFault ss e
wrong ss heads edges s rest why number e front whole place fault same = subst (IsStanzasFault ss) (sym same) (at why fault) where
  at : (w : Fault) → IsNextFault heads edges s w → IsStanzasFault ss (numbered_of w number)
  at BadStanza f = record { heads = heads; edges = edges; stanza = s; rest = rest; lawful = front; whole = whole; place = place; fault = f }
  at BadOrder f = inl (record { heads = heads; edges = edges; stanza = s; rest = rest; lawful = front; whole = whole; place = place; fault = f })
  at Repeated f = record { heads = heads; edges = edges; stanza = s; rest = rest; lawful = front; whole = whole; place = place; fault = f }
  at BadEdge f = record { heads = heads; edges = edges; stanza = s; rest = rest; lawful = front; whole = whole; place = place; fault = f }
  at NoMemory f = tt

-- the stanza at a place of an edge
run_fault_at : (ss : List (List LineText)) (from at : ℕ) (cs : List Change) (s : List LineText) (why : Fault) → at < length ss → s ≡ get_or ss at s → AreChanges cs → take at ss ≡ map stanza_of cs → IsParentRead s None
    → IsFault cs s why → IsRunFaultAt ss from (from + at + 1) why
run_fault_at ss from at cs s why lt is lawful read inside fault = record {
  before = cs;
  stanza = s;
  rest = drop (suc at) ss;
  lawful = lawful;
  whole = cut_at ss at s lt is ∙ ap (λ (us : List (List LineText)). us ++ s ∷ drop (suc at) ss) read;
  place = omega (arith, length-take-le at ss (omega arith), ap length read, length-map cs stanza_of);
  fault = fault;
  inside = inside;
}

pub run_fault : (ss : List (List LineText)) (from at : ℕ) (cs : List Change) (s : List LineText) (why : Fault) (e : ChangeTextError) → at < length ss → s ≡ get_or ss at s → AreChanges cs → take at ss ≡ map stanza_of cs
    → IsParentRead s None → IsFault cs s why → e ≡ numbered_of why (from + at + 1) → IsRunFault ss from e
run_fault ss from at cs s why e lt is lawful read inside fault same = subst (IsRunFault ss from) (sym same) (by why fault) where
  by : (w : Fault) → IsFault cs s w → IsRunFault ss from (numbered_of w (from + at + 1))
  by BadStanza f = run_fault_at ss from at cs s BadStanza lt is lawful read inside f
  by BadOrder f = run_fault_at ss from at cs s BadOrder lt is lawful read inside f
  by Repeated f = run_fault_at ss from at cs s Repeated lt is lawful read inside f
  by BadEdge f = f
  by NoMemory f = tt

-- the edge ends where an `old_revision` stands
pub run_ends : (ss : List (List LineText)) (at : ℕ) (cs : List Change) (s : List LineText) (parent : Option Id) → at < length ss → s ≡ get_or ss at s → take at ss ≡ map stanza_of cs → s ≡ head_stanza (Parent parent)
    → EndsRun ss cs (Some parent)
run_ends ss at cs s parent lt is read named =
    (drop (suc at) ss, cut_at ss at s lt is ∙ ap (λ (us : List (List LineText)). us ++ s ∷ drop (suc at) ss) read ∙ ap (λ (t : List LineText). map stanza_of cs ++ t ∷ drop (suc at) ss) named)

-- the first stanzas of a list
pub cut1 : (ss : List (List LineText)) (a : List LineText) → 0 < length ss → a ≡ get_or ss 0 a → ss ≡ a ∷ drop 1 ss
cut1 [] a lt is = absurd (omega arith)
cut1 (x ∷ ss) a lt is = ap (λ (u : List LineText). u ∷ ss) (sym is)

pub cut2 : (ss : List (List LineText)) (a b : List LineText) → 1 < length ss → a ≡ get_or ss 0 a → b ≡ get_or ss 1 b → ss ≡ a ∷ b ∷ drop 2 ss
cut2 [] a b lt e f = absurd (omega arith)
cut2 (x ∷ ss) a b lt e f = ap (λ (u : List LineText). u ∷ ss) (sym e) ∙ ap (λ (us : List (List LineText)). a ∷ us) (cut1 ss b (omega arith) f)

pub cut3 : (ss : List (List LineText)) (a b c : List LineText) → 2 < length ss → a ≡ get_or ss 0 a → b ≡ get_or ss 1 b → c ≡ get_or ss 2 c → ss ≡ a ∷ b ∷ c ∷ drop 3 ss
cut3 [] a b c lt e f g = absurd (omega arith)
cut3 (x ∷ ss) a b c lt e f g = ap (λ (u : List LineText). u ∷ ss) (sym e) ∙ ap (λ (us : List (List LineText)). a ∷ us) (cut2 ss b c (omega arith) f g)

none_left : (ss : List (List LineText)) → length ss ≡ 0 → ss ≡ []
none_left [] e = refl
none_left (x ∷ ss) e = absurd (omega (arith, e))

-- a wrong stanza among the first three
pub wrong1 : (ss : List (List LineText)) (a : List LineText) (why : Fault) (e : ChangeTextError) → 0 < length ss → a ≡ get_or ss 0 a → IsHeadFault 1 a why → e ≡ numbered_of why 1 → IsStanzasFault ss e
wrong1 ss a why e lt ia fault same = wrong ss [] [] a (drop 1 ss) why 1 e tt (cut1 ss a lt ia) (omega arith) fault same

pub wrong2 : (ss : List (List LineText)) (a b : List LineText) (why : Fault) (e : ChangeTextError) → 1 < length ss → a ≡ get_or ss 0 a → b ≡ get_or ss 1 b → a ≡ head_stanza Version → IsHeadFault 2 b why
    → e ≡ numbered_of why 2 → IsStanzasFault ss e
wrong2 ss a b why e lt ia ib va fault same =
    wrong ss (Version ∷ []) [] b (drop 2 ss) why 2 e tt (cut2 ss a b lt ia ib ∙ ap (λ (t : List LineText). t ∷ b ∷ drop 2 ss) va) (omega arith) fault same

three : (ss : List (List LineText)) (a b c : List LineText) (m : Id) → 2 < length ss → a ≡ get_or ss 0 a → b ≡ get_or ss 1 b → c ≡ get_or ss 2 c → a ≡ head_stanza Version → b ≡ head_stanza (Manifest m)
    → ss ≡ head_stanza Version ∷ head_stanza (Manifest m) ∷ c ∷ drop 3 ss
three ss a b c m lt ia ib ic va vb =
    cut3 ss a b c lt ia ib ic ∙ ap (λ (t : List LineText). t ∷ b ∷ c ∷ drop 3 ss) va ∙ ap (λ (t : List LineText). head_stanza Version ∷ t ∷ c ∷ drop 3 ss) vb

pub wrong3 : (ss : List (List LineText)) (a b c : List LineText) (m : Id) (why : Fault) (e : ChangeTextError) → 2 < length ss → a ≡ get_or ss 0 a → b ≡ get_or ss 1 b → c ≡ get_or ss 2 c → a ≡ head_stanza Version
    → b ≡ head_stanza (Manifest m) → IsHeadFault 3 c why → e ≡ numbered_of why 3 → IsStanzasFault ss e
wrong3 ss a b c m why e lt ia ib ic va vb fault same =
    wrong ss (Version ∷ Manifest m ∷ []) [] c (drop 3 ss) why 3 e tt (three ss a b c m lt ia ib ic va vb) (omega arith) fault same

-- the three stanzas
pub opened : (ss : List (List LineText)) (a b c : List LineText) (m : Id) (p : Option Id) → 2 < length ss → a ≡ get_or ss 0 a → b ≡ get_or ss 1 b → c ≡ get_or ss 2 c → a ≡ head_stanza Version
    → b ≡ head_stanza (Manifest m) → c ≡ head_stanza (Parent p) → IsOpening ss m p
opened ss a b c m p lt ia ib ic va vb vc = record {
  whole = three ss a b c m lt ia ib ic va vb ∙ ap (λ (t : List LineText). head_stanza Version ∷ head_stanza (Manifest m) ∷ t ∷ drop 3 ss) vc;
}

-- too few stanzas
pub early0 : (ss : List (List LineText)) → length ss ≡ 0 → EndsEarly ss 1
early0 ss e = record { heads = []; lawful = tt; whole = none_left ss e; place = omega arith }

pub early1 : (ss : List (List LineText)) (a : List LineText) → length ss ≡ 1 → a ≡ get_or ss 0 a → a ≡ head_stanza Version → EndsEarly ss 2
early1 ss a e ia va = record {
  heads = Version ∷ [];
  lawful = tt;
  whole =
      cut1 ss a (omega (arith, e)) ia ∙ ap (λ (us : List (List LineText)). a ∷ us) (none_left (drop 1 ss) (omega (arith, length-drop 1 ss, e))) ∙ ap (λ (t : List LineText). t ∷ []) va;
  place = omega arith;
}

pub early2 : (ss : List (List LineText)) (a b : List LineText) (m : Id) → length ss ≡ 2 → a ≡ get_or ss 0 a → b ≡ get_or ss 1 b → a ≡ head_stanza Version → b ≡ head_stanza (Manifest m) → EndsEarly ss 3
early2 ss a b m e ia ib va vb = record {
  heads = Version ∷ Manifest m ∷ [];
  lawful = tt;
  whole =
      cut2 ss a b (omega (arith, e)) ia ib
      ∙ ap (λ (us : List (List LineText)). a ∷ b ∷ us) (none_left (drop 2 ss) (omega (arith, length-drop 2 ss, e)))
      ∙ ap (λ (t : List LineText). t ∷ b ∷ []) va
      ∙ ap (λ (t : List LineText). head_stanza Version ∷ t ∷ []) vb;
  place = omega arith;
}

-- a list that is not empty
pub some : (ss : List (List LineText)) (b : Bool) → b ≡ (length ss == 0) → b ≡ false → 0 < length ss
some [] b e f = absurd (cc)
some (x ∷ ss) b e f = omega arith
