-- The text of a record by its parts.
use Rattle.std.proofs.Common.{◌≡◌, ◌∙◌, sym, ap, refl, ℕ, zero, suc, ◌<◌, List, [], ◌∷◌, ◌++◌, append_assoc, map, length, arith}
use Rattle.std.specs.Prelude.{codes, slice_index_or}
use Rattle.std.specs.List.{flat_map}
use Rattle.std.proofs.lemmas.Grind.{flat_map-append}
use Rattle.host_record.specs.Lines.{answer_field, class_field, ended_line, text_of_lines}
use Rattle.host_record.specs.Said.{lib_names}
use Rattle.host_record.specs.Grammar.{library_lines, look_line, record_text, lib_name_at, version_line}
use Rattle.host_record.specs.declared.lines.Line.{Line}
use Rattle.host_record.specs.declared.lines.Line.TheVariants.{Head, Machine, Interp, Ask, End}
use Rattle.load_model.specs.Escaping.{escaped, version_text}
use Rattle.host_record.specs.declared.lines.Lookup.{Lookup}
use Rattle.host_record.specs.declared.records.Record.{Record}
use Rattle.host_record.specs.declared.records.RecLib.{RecLib}
use Rattle.host_record.specs.declared.records.RecVersion.{RecVersion}
use Rattle.host_record.specs.declared.records.Look.{Look}

six : (h m i a v b e : List ℕ) → (((((h ++ m) ++ i) ++ a) ++ v) ++ b) ++ e ≡ h ++ (m ++ (i ++ (a ++ (v ++ (b ++ e)))))
six h m i a v b e =
    append_assoc ((((h ++ m) ++ i) ++ a) ++ v) b e
    ∙ (append_assoc (((h ++ m) ++ i) ++ a) v (b ++ e)
    ∙ (append_assoc ((h ++ m) ++ i) a (v ++ (b ++ e)) ∙ (append_assoc (h ++ m) i (a ++ (v ++ (b ++ e))) ∙ append_assoc h m (i ++ (a ++ (v ++ (b ++ e)))))))

four : (i a v b : List Line) → text_of_lines i ++ (text_of_lines a ++ (text_of_lines v ++ (text_of_lines b ++ ended_line End))) ≡ text_of_lines (i ++ (a ++ (v ++ (b ++ End ∷ []))))
four i a v b =
    ap (λ t. text_of_lines i ++ (text_of_lines a ++ (text_of_lines v ++ t))) (sym (flat_map-append ended_line b (End ∷ [])))
    ∙ (ap (λ t. text_of_lines i ++ (text_of_lines a ++ t)) (sym (flat_map-append ended_line v (b ++ End ∷ [])))
    ∙ (ap (λ t. text_of_lines i ++ t) (sym (flat_map-append ended_line a (v ++ (b ++ End ∷ [])))) ∙ sym (flat_map-append ended_line i (a ++ (v ++ (b ++ End ∷ []))))))

record_parts : (r : Record) → (((((ended_line Head ++ ended_line (Machine r.machine)) ++ text_of_lines (map Interp r.interps)) ++ text_of_lines (flat_map library_lines r.libs)) ++ text_of_lines (map (version_line (lib_names r.libs)) r.versions)) ++ text_of_lines (map (look_line (lib_names r.libs)) r.looks)) ++ ended_line End ≡ record_text r
record_parts r =
    let libs = flat_map library_lines r.libs in
    let versions = map (version_line (lib_names r.libs)) r.versions in
    let looks = map (look_line (lib_names r.libs)) r.looks in
    six (ended_line Head) (ended_line (Machine r.machine)) (text_of_lines (map Interp r.interps)) (text_of_lines libs) (text_of_lines versions) (text_of_lines looks) (ended_line End)
    ∙ ap (λ t. ended_line Head ++ (ended_line (Machine r.machine) ++ t)) (four (map Interp r.interps) libs versions looks)

pub name_there : (libs : List RecLib) (k : ℕ) (other : RecLib) → k < length libs → (slice_index_or libs k other).name ≡ lib_name_at (lib_names libs) k
name_there [] k other l = absurd (omega arith)
name_there (a ∷ libs) zero other l = refl
name_there (a ∷ libs) (suc k) other l = name_there libs k other (omega arith)

-- what was written is the texts of what the slices give
pub written_parts : (r : Record) (interps : List (List ℕ)) (libs : List RecLib) (versions : List RecVersion) (looks : List Look) (start head machine paths there wanted all out : List ℕ) → start ≡ [] → head ≡ start ++ ended_line Head → machine ≡ head ++ ended_line (Machine r.machine) → paths ≡ machine ++ text_of_lines (map Interp interps) → there ≡ paths ++ text_of_lines (flat_map library_lines libs) → wanted ≡ there ++ text_of_lines (map (version_line (lib_names libs)) versions) → all ≡ wanted ++ text_of_lines (map (look_line (lib_names libs)) looks) → out ≡ all ++ ended_line End → interps ≡ r.interps → libs ≡ r.libs → versions ≡ r.versions → looks ≡ r.looks → out ≡ record_text r
written_parts r interps libs versions looks start head machine paths there wanted all out a b c d e v f g h i w k =
    let first : machine ≡ ended_line Head ++ ended_line (Machine r.machine) = c ∙ ap (λ t. t ++ ended_line (Machine r.machine)) (b ∙ ap (λ t. t ++ ended_line Head) a) in
    let second : paths ≡ (ended_line Head ++ ended_line (Machine r.machine)) ++ text_of_lines (map Interp r.interps) = d ∙ (ap (λ t. t ++ text_of_lines (map Interp interps)) first ∙ ap (λ ps. (ended_line Head ++ ended_line (Machine r.machine)) ++ text_of_lines (map Interp ps)) h) in
    let third : there ≡ ((ended_line Head ++ ended_line (Machine r.machine)) ++ text_of_lines (map Interp r.interps)) ++ text_of_lines (flat_map library_lines r.libs) = e ∙ (ap (λ t. t ++ text_of_lines (flat_map library_lines libs)) second ∙ ap (λ ls. ((ended_line Head ++ ended_line (Machine r.machine)) ++ text_of_lines (map Interp r.interps)) ++ text_of_lines (flat_map library_lines ls)) i) in
    let fourth : wanted ≡ there ++ text_of_lines (map (version_line (lib_names r.libs)) r.versions) = v ∙ (ap (λ ls. there ++ text_of_lines (map (version_line (lib_names ls)) versions)) i ∙ ap (λ vs. there ++ text_of_lines (map (version_line (lib_names r.libs)) vs)) w) in
    let fifth : all ≡ wanted ++ text_of_lines (map (look_line (lib_names r.libs)) r.looks) = f ∙ (ap (λ ls. wanted ++ text_of_lines (map (look_line (lib_names ls)) looks)) i ∙ ap (λ ls. wanted ++ text_of_lines (map (look_line (lib_names r.libs)) ls)) k) in
    let sixth = fourth ∙ ap (λ t. t ++ text_of_lines (map (version_line (lib_names r.libs)) r.versions)) third in
    g ∙ (ap (λ t. t ++ ended_line End) (fifth ∙ ap (λ t. t ++ text_of_lines (map (look_line (lib_names r.libs)) r.looks)) sixth) ∙ record_parts r)

-- what was added twice
after : (o p q x y : List ℕ) → p ≡ o ++ x → q ≡ p ++ y → q ≡ o ++ (x ++ y)
after o p q x y e f = f ∙ (ap (λ t. t ++ y) e ∙ append_assoc o x y)

nested : (a b c d k e : List ℕ) → (((((((a ++ b) ++ 32 ∷ []) ++ c) ++ 32 ∷ []) ++ d) ++ 32 ∷ (k ++ 32 ∷ [])) ++ e) ++ 10 ∷ [] ≡ (a ++ (b ++ 32 ∷ (c ++ 32 ∷ (d ++ 32 ∷ (k ++ 32 ∷ e))))) ++ 10 ∷ []
nested a b c d k e = simp append_assoc refl

-- a look is written in nine pieces
pub look_written : (l : Lookup) (o p q r s t u v w x : List ℕ) → p ≡ o ++ codes "look " → q ≡ p ++ escaped l.lib → r ≡ q ++ 32 ∷ [] → s ≡ r ++ escaped l.name → t ≡ s ++ 32 ∷ [] → u ≡ t ++ version_text l.version → v ≡ u ++ 32 ∷ (class_field l.call ++ 32 ∷ []) → w ≡ v ++ answer_field l.answer → x ≡ w ++ 10 ∷ [] → x ≡ o ++ ended_line (Ask l)
look_written l o p q r s t u v w x a b c d e f g h i =
    let two = after o p q (codes "look ") (escaped l.lib) a b in
    let three = after o q r (codes "look " ++ escaped l.lib) (32 ∷ []) two c in
    let four = after o r s ((codes "look " ++ escaped l.lib) ++ 32 ∷ []) (escaped l.name) three d in
    let five = after o s t (((codes "look " ++ escaped l.lib) ++ 32 ∷ []) ++ escaped l.name) (32 ∷ []) four e in
    let six = after o t u ((((codes "look " ++ escaped l.lib) ++ 32 ∷ []) ++ escaped l.name) ++ 32 ∷ []) (version_text l.version) five f in
    let seven = after o u v (((((codes "look " ++ escaped l.lib) ++ 32 ∷ []) ++ escaped l.name) ++ 32 ∷ []) ++ version_text l.version) (32 ∷ (class_field l.call ++ 32 ∷ [])) six g in
    let eight = after o v w ((((((codes "look " ++ escaped l.lib) ++ 32 ∷ []) ++ escaped l.name) ++ 32 ∷ []) ++ version_text l.version) ++ 32 ∷ (class_field l.call ++ 32 ∷ [])) (answer_field l.answer) seven h in
    let nine = after o w x (((((((codes "look " ++ escaped l.lib) ++ 32 ∷ []) ++ escaped l.name) ++ 32 ∷ []) ++ version_text l.version) ++ 32 ∷ (class_field l.call ++ 32 ∷ [])) ++ answer_field l.answer) (10 ∷ []) eight i in
    nine ∙ ap (λ k. o ++ k) (nested (codes "look ") (escaped l.lib) (escaped l.name) (version_text l.version) (class_field l.call) (answer_field l.answer))
