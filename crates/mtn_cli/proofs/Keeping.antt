-- Words that spell an id spell twenty bytes, so what a command keeps are ids.
use Rattle.std.specs.Prelude.{List, [], ◌∷◌, ℕ, Option, Some, None, Bool, true, false, bytes_eq, codes, option_map}
use Rattle.std.specs.Option.{option_and_then}
use Rattle.std.proofs.Common.{◌≡◌, cond}
use Rattle.mtn_base.specs.Hex.{read_id}
use Rattle.mtn_base.specs.declared.id.Id.{Id}
use Rattle.mtn_certs.specs.Certificates.{IsIdBytes}
use Rattle.mtn_order.specs.Free.{KeepsIds, MakesIds, NamesIds, asks_ids}
use Rattle.mtn_step.specs.declared.call.Call.{Call}
use Rattle.mtn_step_laws.proofs.Ids.{If, read_is}
use Rattle.mtn_step.specs.declared.call.Call.TheVariants.{PutFile, PutRevision, GetFile, GetRevision, GetManifestOf, GetRoster, GetContentChanged, GetCorrespondingPath, Ask, Graph, Merge, ShowConflicts, Cert, Certs, Key, Heads, Branches, Commit, Packets, Read, Generate, Check, Migrate}
use Rattle.mtn_step.specs.declared.call.Said.{Said}
use Rattle.mtn_words.specs.Calls.{ask_named, call_named, call_of, call_with, cert, cert_by, commit, content_changed, corresponding_path, key_named, merge, merge_heads, query_named, said, view_named}
use Rattle.mtn_words.specs.Options.{has_flag, key_of, option_value, takes}
use Rattle.mtn_words.specs.Positionals.{id_and_ids, ids, no_words, one_count, one_id, one_word, read_path, two_ids}
use Rattle.mtn_words.specs.Words.{command_of}
use Rattle.mtn_words.specs.declared.words.Command.{Command}
use Rattle.mtn_words.specs.declared.words.OptionWord.{OptionWord}

-- ---- calls

-- whatever is made of it
made : {A B : Type 0} (P : A → Type 0) (Q : B → Type 0) (make : A → Option B) → ((a : A) → P a → If Q (make a)) → (o : Option A) → If P o → If Q (option_and_then make o)
made P Q make each None is = tt
made P Q make each (Some a) is = each a is

any : {A : Type 0} (o : Option A) → If (λ (a : A). Unit {0}) o
any None = tt
any (Some a) = tt

of : {A B : Type 0} (P : A → Type 0) (Q : B → Type 0) (make : A → B) → ((a : A) → P a → Q (make a)) → (o : Option A) → If P o → If Q (option_map make o)
of P Q make each None is = tt
of P Q make each (Some a) is = each a is

abbrev Fits : Option Call → Type 0
Fits = If NamesIds

either : (b : Bool) (x y : Option Call) → Fits x → Fits y → Fits (cond b x y)
either true x y p q = p
either false x y p q = q

-- a call that keeps nothing, of anything
plain : {A : Type 0} (make : A → Call) → ((a : A) → NamesIds (make a)) → (o : Option A) → Fits (option_map make o)
plain make each o = of (λ _. Unit {0}) NamesIds make (λ a _. each a) o (any o)

next : {A : Type 0} (make : A → Option Call) → ((a : A) → Fits (make a)) → (o : Option A) → Fits (option_and_then make o)
next make each o = made (λ _. Unit {0}) NamesIds make (λ a _. each a) o (any o)

two : (make : Id → Id → Call) → ((a b : Id) → NamesIds (make a b)) → (words : List (List ℕ)) → Fits (two_ids make words)
two make each [] = tt
two make each (a ∷ []) = tt
two make each (a ∷ b ∷ []) = next (λ x. option_map (make x) (read_id b)) (λ x. plain (make x) (each x) (read_id b)) (read_id a)
two make each (_ ∷ _ ∷ _ ∷ _) = tt

content_fits : (words : List (List ℕ)) → Fits (content_changed words)
content_fits [] = tt
content_fits (a ∷ []) = tt
content_fits (a ∷ b ∷ []) = next (λ id. option_map (GetContentChanged id) (read_path b)) (λ id. plain (GetContentChanged id) (λ _. tt) (read_path b)) (read_id a)
content_fits (_ ∷ _ ∷ _ ∷ _) = tt

path_fits : (words : List (List ℕ)) → Fits (corresponding_path words)
path_fits [] = tt
path_fits (a ∷ []) = tt
path_fits (a ∷ b ∷ []) = tt
path_fits (a ∷ b ∷ c ∷ []) =
    next (λ id. option_and_then (λ path. option_map (GetCorrespondingPath id path) (read_id c)) (read_path b))
    (λ id. next (λ path. option_map (GetCorrespondingPath id path) (read_id c)) (λ path. plain (GetCorrespondingPath id path) (λ _. tt) (read_id c)) (read_path b)) (read_id a)
path_fits (_ ∷ _ ∷ _ ∷ _ ∷ _) = tt

key_fits : (words : List (List ℕ)) → Fits (key_named words)
key_fits [] = tt
key_fits (a ∷ []) = tt
key_fits (a ∷ name ∷ []) = of (λ (id : Id). IsIdBytes id.0) NamesIds (λ id. Key id name) (λ id is. is) (read_id a) (read_is a)
key_fits (_ ∷ _ ∷ _ ∷ _) = tt

with_ids : (make : Id → List Id → Call) → ((a : Id) (rest : List Id) → NamesIds (make a rest)) → (words : List (List ℕ)) → Fits (id_and_ids make words)
with_ids make each [] = tt
with_ids make each (word ∷ rest) = next (λ id. option_map (make id) (ids rest)) (λ id. plain (make id) (each id) (ids rest)) (read_id word)

ask_fits : (name : List ℕ) (words : List (List ℕ)) → Fits (ask_named name words)
ask_fits name words =
    either (bytes_eq name (codes "heads")) _ _ (plain Heads (λ _. tt) (one_word words))
    (either (bytes_eq name (codes "branches")) _ _ (plain (λ _. Branches) (λ _. tt) (no_words words))
    (either (bytes_eq name (codes "graph")) _ _ (plain (λ _. Graph) (λ _. tt) (no_words words))
    (either (bytes_eq name (codes "packets")) _ _ (with_ids Packets (λ _ _. tt) words) (plain Ask (λ _. tt) (query_named name words)))))

view_fits : (name : List ℕ) (words : List (List ℕ)) → Fits (view_named name words)
view_fits name words =
    either (bytes_eq name (codes "get_manifest_of")) _ _ (plain GetManifestOf (λ _. tt) (one_id words))
    (either (bytes_eq name (codes "get_roster")) _ _ (plain GetRoster (λ _. tt) (one_id words))
    (either (bytes_eq name (codes "get_content_changed")) _ _ (content_fits words)
    (either (bytes_eq name (codes "get_corresponding_path")) _ _ (path_fits words)
    (either (bytes_eq name (codes "show_conflicts")) _ _ (two ShowConflicts (λ _ _. tt) words)
    (either (bytes_eq name (codes "certs")) _ _ (plain Certs (λ _. tt) (one_id words)) (ask_fits name words))))))

named_fits : (name : List ℕ) (words : List (List ℕ)) → Fits (call_named name words)
named_fits name words =
    either (bytes_eq name (codes "put_file")) _ _ (plain (λ _. PutFile) (λ _. tt) (no_words words))
    (either (bytes_eq name (codes "put_revision")) _ _ (plain (λ _. PutRevision) (λ _. tt) (no_words words))
    (either (bytes_eq name (codes "get_file")) _ _ (plain GetFile (λ _. tt) (one_id words))
    (either (bytes_eq name (codes "get_revision")) _ _ (plain GetRevision (λ _. tt) (one_id words))
    (either (bytes_eq name (codes "key")) _ _ (key_fits words)
    (either (bytes_eq name (codes "read")) _ _ (plain (λ _. Read) (λ _. tt) (no_words words))
    (either (bytes_eq name (codes "generate")) _ _ (plain Generate (λ _. tt) (one_count words))
    (either (bytes_eq name (codes "check")) _ _ (plain (λ _. Check) (λ _. tt) (no_words words))
    (either (bytes_eq name (codes "migrate")) _ _ (plain (λ _. Migrate) (λ _. tt) (no_words words)) (view_fits name words)))))))))

-- ---- those with options

key_is : (options : List OptionWord) → If (λ (id : Id). IsIdBytes id.0) (key_of options)
key_is options = made (λ _. Unit {0}) (λ (id : Id). IsIdBytes id.0) read_id (λ text _. read_is text) (option_value options (codes "key")) (any (option_value options (codes "key")))

merge_fits : (options : List OptionWord) (words : List (List ℕ)) → Fits (merge options words)
merge_fits options words = either (takes (codes "resolve" ∷ []) [] options) _ _ (two (λ a b. Merge a b (has_flag options (codes "resolve"))) (λ _ _. tt) words) tt

merge_heads_fits : (options : List OptionWord) (words : List (List ℕ)) → Fits (merge_heads options words)
merge_heads_fits options words =
    either (takes (codes "resolve" ∷ []) (codes "author" ∷ codes "date" ∷ codes "key" ∷ []) options) _ _
    (next _ (λ branch. next _ (λ author. next _ (λ date. made (λ (id : Id). IsIdBytes id.0) NamesIds _ (λ key is. is) (key_of options) (key_is options))
    (option_value options (codes "date"))) (option_value options (codes "author"))) (one_word words)) tt

abbrev KeyIs : Said → Type 0
KeyIs s = IsIdBytes s.key.0

with : {A : Type 0} (make : A → Option Said) → ((a : A) → If KeyIs (make a)) → (o : Option A) → If KeyIs (option_and_then make o)
with make each o = made (λ _. Unit {0}) KeyIs make (λ a _. each a) o (any o)

said_is : (options : List OptionWord) → If KeyIs (said options)
said_is options =
    with _ (λ author. with _ (λ branch. with _ (λ changelog. with _ (λ date. made (λ (id : Id). IsIdBytes id.0) KeyIs _ (λ key is. is) (key_of options) (key_is options))
    (option_value options (codes "date"))) (option_value options (codes "changelog"))) (option_value options (codes "branch"))) (option_value options (codes "author"))

commit_fits : (options : List OptionWord) (words : List (List ℕ)) → Fits (commit options words)
commit_fits options words =
    either (takes [] (codes "author" ∷ codes "branch" ∷ codes "changelog" ∷ codes "date" ∷ codes "key" ∷ []) options) _ _
    (next (λ _. option_map Commit (said options)) (λ _. of KeyIs NamesIds Commit (λ s is. is) (said options) (said_is options)) (no_words words)) tt

cert_by_fits : (key : Id) → IsIdBytes key.0 → (signature : Option (List ℕ)) (words : List (List ℕ)) → Fits (cert_by key signature words)
cert_by_fits key is signature [] = tt
cert_by_fits key is signature (a ∷ []) = tt
cert_by_fits key is signature (a ∷ name ∷ []) = tt
cert_by_fits key is signature (a ∷ name ∷ value ∷ []) = of (λ (id : Id). IsIdBytes id.0) NamesIds (λ id. Cert id name key value signature) (λ id revision. (revision, is)) (read_id a) (read_is a)
cert_by_fits key is signature (_ ∷ _ ∷ _ ∷ _ ∷ _) = tt

cert_fits : (options : List OptionWord) (words : List (List ℕ)) → Fits (cert options words)
cert_fits options words =
    either (takes [] (codes "key" ∷ codes "sig" ∷ []) options) _ _
    (made (λ (id : Id). IsIdBytes id.0) NamesIds (λ key. cert_by key (option_value options (codes "sig")) words) (λ key is. cert_by_fits key is (option_value options (codes "sig")) words) (key_of options) (key_is options)) tt

with_fits : (options : List OptionWord) (name : List ℕ) (words : List (List ℕ)) → Fits (call_with options name words)
with_fits options name words =
    either (bytes_eq name (codes "merge")) _ _ (merge_fits options words)
    (either (bytes_eq name (codes "merge_heads")) _ _ (merge_heads_fits options words)
    (either (bytes_eq name (codes "commit")) _ _ (commit_fits options words)
    (either (bytes_eq name (codes "cert")) _ _ (cert_fits options words)
    (either (takes [] [] options) _ _ (named_fits name words) tt))))

named_ids : (words : List (List ℕ)) → If NamesIds (call_of words)
named_ids words = next (λ (c : Command). call_with c.options c.name c.positionals) (λ c. with_fits c.options c.name c.positionals) (command_of words)

-- the command that words spell
pub call_keeps : (f : List ℕ → List ℕ) (words : List (List ℕ)) → (asks_ids (call_of words) ≡ true → MakesIds f) → If (KeepsIds f) (call_of words)
call_keeps f words makes = by (call_of words) (named_ids words) makes
  where
    by : (o : Option Call) → If NamesIds o → (asks_ids o ≡ true → MakesIds f) → If (KeepsIds f) o
    by None names ids = tt
    by (Some call) names ids = (names, ids)
