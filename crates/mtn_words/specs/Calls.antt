-- Which commands there are, and which words each takes. The commands, their options and their order are Monotone's or our choice.
use Rattle.std.specs.Prelude.{List, [], ◌∷◌, Option, Some, None, ℕ, codes, bytes_eq, option_map, if◌then◌else◌}
use Rattle.std.specs.Option.{option_and_then}
use Rattle.mtn_base.specs.Hex.{read_id}
use Rattle.mtn_base.specs.declared.id.Id.{Id}
use Rattle.mtn_step.specs.declared.call.Call.{Call}
use Rattle.mtn_step.specs.declared.call.Call.TheVariants.{PutFile, PutRevision, GetFile, GetRevision, GetManifestOf, GetRoster, GetContentChanged, GetCorrespondingPath, Ask, Graph, Merge, ShowConflicts, Cert, Certs, Key, Heads, Branches, Commit, MergeHeads, Packets, Read, Generate, Check, Migrate}
use Rattle.mtn_step.specs.declared.call.Said.{Said}
use Rattle.mtn_answers.specs.declared.query.Query.{Query}
use Rattle.mtn_answers.specs.declared.query.Query.TheVariants.{Parents, Children, Ancestors, Descendents, CommonAncestors, EraseAncestors, Toposort, AncestryDifference, Leaves, Roots}
use Rattle.mtn_words.specs.declared.words.Command.{Command}
use Rattle.mtn_words.specs.declared.words.OptionWord.{OptionWord}
use Rattle.mtn_words.specs.Options.{has_flag, option_value, takes, with_key, with_value}
use Rattle.mtn_words.specs.Positionals.{id_and_ids, ids, no_words, one_count, one_id, one_word, read_path, some_ids, two_ids}
use Rattle.mtn_words.specs.Words.{command_of}

-- an id and a path
abbrev pub content_changed : List (List ℕ) → Option Call
content_changed [] = None
content_changed (a ∷ []) = None
content_changed (a ∷ b ∷ []) = option_and_then (λ id. option_map (GetContentChanged id) (read_path b)) (read_id a)
content_changed (_ ∷ _ ∷ _ ∷ _) = None

-- an id, a path and an id
abbrev pub corresponding_path : List (List ℕ) → Option Call
corresponding_path [] = None
corresponding_path (a ∷ []) = None
corresponding_path (a ∷ b ∷ []) = None
corresponding_path (a ∷ b ∷ c ∷ []) = option_and_then (λ id. option_and_then (λ path. option_map (GetCorrespondingPath id path) (read_id c)) (read_path b)) (read_id a)
corresponding_path (_ ∷ _ ∷ _ ∷ _ ∷ _) = None

-- an id and a name
abbrev pub key_named : List (List ℕ) → Option Call
key_named [] = None
key_named (a ∷ []) = None
key_named (a ∷ name ∷ []) = option_map (λ id. Key id name) (read_id a)
key_named (_ ∷ _ ∷ _ ∷ _) = None

-- a query that picks or orders revisions, given ones or all, one line each
abbrev pub pick_named : List ℕ → List (List ℕ) → Option Query
pick_named name words =
    if bytes_eq name (codes "erase_ancestors") then option_map EraseAncestors (ids words)
    else if bytes_eq name (codes "toposort") then option_map Toposort (ids words)
    else if bytes_eq name (codes "leaves") then option_map (λ _. Leaves) (no_words words)
    else if bytes_eq name (codes "roots") then option_map (λ _. Roots) (no_words words)
    else None

-- a query of what is above or below given revisions, one line each, or another one
abbrev pub query_named : List ℕ → List (List ℕ) → Option Query
query_named name words =
    if bytes_eq name (codes "parents") then option_map Parents (one_id words)
    else if bytes_eq name (codes "children") then option_map Children (one_id words)
    else if bytes_eq name (codes "ancestors") then option_map Ancestors (some_ids words)
    else if bytes_eq name (codes "descendents") then option_map Descendents (some_ids words)
    else if bytes_eq name (codes "common_ancestors") then id_and_ids CommonAncestors words
    else if bytes_eq name (codes "ancestry_difference") then id_and_ids AncestryDifference words
    else pick_named name words

-- a question about the graph, the branches and packets, one line each
abbrev pub ask_named : List ℕ → List (List ℕ) → Option Call
ask_named name words =
    if bytes_eq name (codes "heads") then option_map Heads (one_word words)
    else if bytes_eq name (codes "branches") then option_map (λ _. Branches) (no_words words)
    else if bytes_eq name (codes "graph") then option_map (λ _. Graph) (no_words words)
    else if bytes_eq name (codes "packets") then id_and_ids Packets words
    else option_map Ask (query_named name words)

-- a question about given revisions, one line each, or another one
abbrev pub view_named : List ℕ → List (List ℕ) → Option Call
view_named name words =
    if bytes_eq name (codes "get_manifest_of") then option_map GetManifestOf (one_id words)
    else if bytes_eq name (codes "get_roster") then option_map GetRoster (one_id words)
    else if bytes_eq name (codes "get_content_changed") then content_changed words
    else if bytes_eq name (codes "get_corresponding_path") then corresponding_path words
    else if bytes_eq name (codes "show_conflicts") then two_ids ShowConflicts words
    else if bytes_eq name (codes "certs") then option_map Certs (one_id words)
    else ask_named name words

-- a command by its name, one line each, or a question
abbrev pub call_named : List ℕ → List (List ℕ) → Option Call
call_named name words =
    if bytes_eq name (codes "put_file") then option_map (λ _. PutFile) (no_words words)
    else if bytes_eq name (codes "put_revision") then option_map (λ _. PutRevision) (no_words words)
    else if bytes_eq name (codes "get_file") then option_map GetFile (one_id words)
    else if bytes_eq name (codes "get_revision") then option_map GetRevision (one_id words)
    else if bytes_eq name (codes "key") then key_named words
    else if bytes_eq name (codes "read") then option_map (λ _. Read) (no_words words)
    else if bytes_eq name (codes "generate") then option_map Generate (one_count words)
    else if bytes_eq name (codes "check") then option_map (λ _. Check) (no_words words)
    else if bytes_eq name (codes "migrate") then option_map (λ _. Migrate) (no_words words)
    else view_named name words

-- a command that takes no option
abbrev pub call_without : List OptionWord → List ℕ → List (List ℕ) → Option Call
call_without options name words = if takes [] [] options then call_named name words else None

-- the flag `--resolve`, or no option
abbrev pub merge : List OptionWord → List (List ℕ) → Option Call
merge options words = if takes (codes "resolve" ∷ []) [] options then two_ids (λ a b. Merge a b (has_flag options (codes "resolve"))) words else None

-- what is said of a revision
abbrev pub said : List OptionWord → Option Said
said options =
    with_value options (codes "author") (λ author. with_value options (codes "branch") (λ branch.
    with_value options (codes "changelog") (λ changelog. with_value options (codes "date") (λ date.
    with_key options (λ key. Some (record { author = author; branch = branch; changelog = changelog; date = date; key = key }))))))

abbrev pub commit : List OptionWord → List (List ℕ) → Option Call
commit options words =
    if takes [] (codes "author" ∷ codes "branch" ∷ codes "changelog" ∷ codes "date" ∷ codes "key" ∷ []) options
    then option_and_then (λ _. option_map Commit (said options)) (no_words words)
    else None

abbrev pub merge_heads : List OptionWord → List (List ℕ) → Option Call
merge_heads options words =
    if takes (codes "resolve" ∷ []) (codes "author" ∷ codes "date" ∷ codes "key" ∷ []) options
    then option_and_then (λ branch. with_value options (codes "author") (λ author. with_value options (codes "date") (λ date.
    with_key options (λ key. Some (MergeHeads branch author date key (has_flag options (codes "resolve"))))))) (one_word words)
    else None

-- an id, a name and a value
abbrev pub cert_by : Id → Option (List ℕ) → List (List ℕ) → Option Call
cert_by key signature [] = None
cert_by key signature (a ∷ []) = None
cert_by key signature (a ∷ name ∷ []) = None
cert_by key signature (a ∷ name ∷ value ∷ []) = option_map (λ id. Cert id name key value signature) (read_id a)
cert_by key signature (_ ∷ _ ∷ _ ∷ _ ∷ _) = None

-- the signature may be absent
abbrev pub cert : List OptionWord → List (List ℕ) → Option Call
cert options words =
    if takes [] (codes "key" ∷ codes "sig" ∷ []) options
    then with_key options (λ key. cert_by key (option_value options (codes "sig")) words)
    else None

-- a command with what its options say, one line each
abbrev pub call_with : List OptionWord → List ℕ → List (List ℕ) → Option Call
call_with options name words =
    if bytes_eq name (codes "merge") then merge options words
    else if bytes_eq name (codes "merge_heads") then merge_heads options words
    else if bytes_eq name (codes "commit") then commit options words
    else if bytes_eq name (codes "cert") then cert options words
    else call_without options name words

abbrev pub call_of : List (List ℕ) → Option Call
call_of words = option_and_then (λ (c : Command). call_with c.options c.name c.positionals) (command_of words)
