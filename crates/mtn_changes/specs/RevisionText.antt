-- The text of a revision, and why a text is none.
use Rattle.std.specs.Prelude.{◌≡◌, ◌+◌, ◌⊎◌, ℕ, List, [], ◌∷◌, ◌++◌, length, map, Option, Some, None}
use Rattle.std.specs.List.{flat_map}
use Rattle.std.specs.declared.cmp.Ordering.TheVariants.{Less}
use Rattle.mtn_base.specs.Names.{bytes_cmp}
use Rattle.mtn_base.specs.declared.id.Id.{Id}
use Rattle.mtn_basic_io.specs.Spelling.{LineText, AreStanzas, spelling}
use Rattle.mtn_changes.specs.declared.change.Change.{Change}
use Rattle.mtn_changes.specs.declared.change.Edge.{Edge}
use Rattle.mtn_changes.specs.declared.change.Revision.{Revision}
use Rattle.mtn_changes.specs.declared.head.Head.{Head}
use Rattle.mtn_changes.specs.declared.head.Head.TheVariants.{Version, Manifest, Parent}
use Rattle.mtn_changes.specs.declared.order.Fault.{Fault}
use Rattle.mtn_changes.specs.declared.order.Fault.TheVariants as one
use Rattle.mtn_changes.specs.declared.error.ChangeTextError.{ChangeTextError}
use Rattle.mtn_changes.specs.declared.error.ChangeTextError.TheVariants.{NotText, BadStanza, BadOrder, Repeated, BadEdge, NoMemory}
use Rattle.mtn_changes.specs.Changes.{IsChange}
use Rattle.mtn_changes.specs.Stanzas.{stanza_of, IsRead}
use Rattle.mtn_changes.specs.Heads.{head_stanza, head_rank, IsHeadRead}
use Rattle.mtn_changes.specs.Lists.{IsFault}
use Rattle.mtn_changes.specs.ChangesText.{AreChanges, IsNoText}

-- `old_revision` and then the changes
abbrev pub edge_stanzas : Edge → List (List LineText)
edge_stanzas e = head_stanza (Parent e.parent) ∷ map stanza_of e.changes

-- `format_version`, `new_manifest` and then the edges
abbrev pub revision_stanzas : Revision → List (List LineText)
revision_stanzas r = head_stanza Version ∷ head_stanza (Manifest r.manifest) ∷ flat_map edge_stanzas r.edges

-- both parents are there, and the second's id is greater
abbrev pub Ascend : Option Id → Option Id → Type 0
Ascend (Some a) (Some b) = bytes_cmp a.0 b.0 ≡ Less
Ascend _ _ = ⊥

-- one edge, or two whose parents ascend
abbrev pub AreEdges : List Edge → Type 0
AreEdges [] = ⊥
AreEdges (e ∷ []) = AreChanges e.changes
AreEdges (e ∷ f ∷ []) = AreChanges e.changes × AreChanges f.changes × Ascend e.parent f.parent
AreEdges (e ∷ f ∷ g ∷ more) = ⊥

-- the stanzas of a lawful revision
pub record IsRevision (stanzas : List (List LineText)) (r : Revision) : Type 0 where
  pub lawful : AreEdges r.edges
  pub spelled : stanzas ≡ revision_stanzas r

-- how a revision begins: heads in their order, and edges only behind both
abbrev pub IsFront : List Head → List Edge → Type 0
IsFront [] [] = Unit {0}
IsFront (Version ∷ []) [] = Unit {0}
IsFront (Version ∷ Manifest id ∷ []) [] = Unit {0}
IsFront (Version ∷ Manifest id ∷ []) (e ∷ es) = AreEdges (e ∷ es)
IsFront _ _ = ⊥

-- why a stanza may not stand where the head of a rank has to
abbrev pub IsHeadFault : ℕ → List LineText → Fault → Type 0
IsHeadFault r stanza one.BadStanza = IsRead stanza None × IsHeadRead stanza None
IsHeadFault r stanza one.BadOrder =
    ((h : Head) × (stanza ≡ head_stanza h) × (head_rank h ≡ r → ⊥)) ⊎ ((c : Change) × IsChange c × (stanza ≡ stanza_of c))
IsHeadFault r stanza one.Repeated = ⊥
IsHeadFault r stanza one.BadEdge = ⊥
IsHeadFault r stanza one.NoMemory = Unit {0}

-- why a stanza may not stand behind the only edge so far, where one more may begin
abbrev pub IsOnlyEdgeFault : Edge → List LineText → Fault → Type 0
IsOnlyEdgeFault e stanza one.BadEdge = (parent : Option Id) × (stanza ≡ head_stanza (Parent parent)) × (Ascend e.parent parent → ⊥)
IsOnlyEdgeFault e stanza why = IsFault e.changes stanza why × ((parent : Option Id) → stanza ≡ head_stanza (Parent parent) → ⊥)

-- why a stanza may not stand behind a front
abbrev pub IsNextFault : List Head → List Edge → List LineText → Fault → Type 0
IsNextFault heads [] stanza why = IsHeadFault (length heads + 1) stanza why
IsNextFault heads (e ∷ []) stanza why = IsOnlyEdgeFault e stanza why
IsNextFault heads (e ∷ f ∷ more) stanza why = IsFault f.changes stanza why

-- a stanza that may not stand behind those before it
pub record IsWrongAt (stanzas : List (List LineText)) (number : ℕ) (why : Fault) : Type 0 where
  pub heads : List Head
  pub edges : List Edge
  pub stanza : List LineText
  pub rest : List (List LineText)
  pub lawful : IsFront heads edges
  pub whole : stanzas ≡ map head_stanza heads ++ flat_map edge_stanzas edges ++ stanza ∷ rest
  pub place : number ≡ length heads + length (flat_map edge_stanzas edges) + 1
  pub fault : IsNextFault heads edges stanza why

-- stanzas that end before the third; the number is that of the first that is wanting
pub record EndsEarly (stanzas : List (List LineText)) (number : ℕ) : Type 0 where
  pub heads : List Head
  pub lawful : IsFront heads []
  pub whole : stanzas ≡ map head_stanza heads
  pub place : number ≡ length heads + 1

-- why stanzas are no revision
abbrev pub IsStanzasFault : List (List LineText) → ChangeTextError → Type 0
IsStanzasFault stanzas (NotText offset) = ⊥
IsStanzasFault stanzas (BadStanza number) = IsWrongAt stanzas number one.BadStanza
IsStanzasFault stanzas (BadOrder number) = IsWrongAt stanzas number one.BadOrder ⊎ EndsEarly stanzas number
IsStanzasFault stanzas (Repeated number) = IsWrongAt stanzas number one.Repeated
IsStanzasFault stanzas (BadEdge number) = IsWrongAt stanzas number one.BadEdge
IsStanzasFault stanzas NoMemory = Unit {0}

-- the text of a lawful revision
pub record IsRevisionText (text : List ℕ) (r : Revision) : Type 0 where
  pub lawful : AreEdges r.edges
  pub spelled : text ≡ spelling (revision_stanzas r)

-- why a text is none
abbrev pub IsRevisionFault : List ℕ → ChangeTextError → Type 0
IsRevisionFault text (NotText offset) = IsNoText text offset
IsRevisionFault text NoMemory = Unit {0}
IsRevisionFault text e = (stanzas : List (List LineText)) × AreStanzas stanzas × (text ≡ spelling stanzas) × IsStanzasFault stanzas e
