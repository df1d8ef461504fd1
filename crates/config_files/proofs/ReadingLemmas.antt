-- What is read of a text at hand is what lies at its path.
use Rattle.std.proofs.Common.{◌≡◌, ◌∙◌, sym, ap, refl, subst, ℕ, List, ◌≤◌, arith, inl, inr}
use Rattle.std.specs.Prelude.{Option, None, Some, Result, Ok, Err}
use Rattle.answers.specs.Answers.{Answers}
use Rattle.answers.specs.Faults.{Rose}
use Rattle.answers.specs.Told.{WhereTold}
use Rattle.app_config.specs.declared.config.Config.{Config}
use Rattle.build_plan.specs.Steps.{IsStepAnswer}
use Rattle.build_plan.specs.declared.stops.BuildStop.{BuildStop}
use Rattle.build_plan.specs.declared.stops.BuildStop.TheVariants.{Refused, Read, NoMemory}
use Rattle.config_text.specs.Faults.{said_of_config}
use Rattle.config_text.specs.Reading.{config_read}
use Rattle.config_text.specs.declared.faults.ConfigFault.{ConfigFault}
use Rattle.config_text.specs.declared.faults.ConfigFault.TheVariants.{NotToml, UnknownKey, MissingKey, WrongKind, BadPath, BadName, TwoTargets, NoMemory as NoMemoryText}
use Rattle.load_model.specs.World.{World, file_at}
use Rattle.load_model.specs.declared.world.WorldFile.{WorldFile}
use Rattle.ports.specs.Reading.{bytes_at, bytes_of, found_at, found_of}
use Rattle.ports.specs.View.{OnlyReads, View}
use Rattle.ports.specs.declared.trees.Found.TheVariants.{Absent, File}
use Rattle.config_files.specs.Configuring.{Configures, refusal_of}
use Rattle.config_files.specs.Reading.{IsAbsentStop, IsFaulty, IsTextAnswer, ReadsText, stop_by}

rose_later : (a b c : ℕ) → a ≤ b → Rose b c → Rose a c
rose_later a b c stays rose = omega (arith, stays, rose)

-- ---- a text at hand

pub fault_told : (text : List ℕ) (fault : ConfigFault) → Answers {T = Config} said_of_config (Err fault) (config_read text) → IsTextAnswer text (Err (stop_by (refusal_of fault)))
fault_told text NotToml h = record { fault = NotToml; faulty = h; told = _; told_is = refl; refusal_is = refl }
fault_told text (UnknownKey key) h = record { fault = UnknownKey key; faulty = h; told = _; told_is = refl; refusal_is = refl }
fault_told text (MissingKey key) h = record { fault = MissingKey key; faulty = h; told = _; told_is = refl; refusal_is = refl }
fault_told text (WrongKind key) h = record { fault = WrongKind key; faulty = h; told = _; told_is = refl; refusal_is = refl }
fault_told text (BadPath key) h = record { fault = BadPath key; faulty = h; told = _; told_is = refl; refusal_is = refl }
fault_told text (BadName key name) h = record { fault = BadName key name; faulty = h; told = _; told_is = refl; refusal_is = refl }
fault_told text (TwoTargets target) h = record { fault = TwoTargets target; faulty = h; told = _; told_is = refl; refusal_is = refl }
fault_told text NoMemoryText h = tt

-- ---- the text of a file of a tree

pub text_there : (before after : View World) (path bytes : List ℕ) (result : Result Config BuildStop) → WhereTold before.told (λ world. bytes ≡ bytes_at world path) → IsTextAnswer bytes result → IsStepAnswer before after (λ world outcome. ReadsText (bytes_at world path) outcome) result
text_there before after path bytes (Ok config) read h = λ world told. subst (λ text. ReadsText text (Ok config)) (read world told) h
text_there before after path bytes (Err (Refused refusal)) read h = λ world told. subst (λ text. ReadsText text (Err refusal)) (read world told) h
text_there before after path bytes (Err Read) read h = absurd h
text_there before after path bytes (Err NoMemory) read h = tt

file_in : (found : Option WorldFile) (id : List ℕ) (len : ℕ) → File id len ≡ found_of found → (file : WorldFile) × (found ≡ Some file)
file_in None id len h = cc
file_in (Some file) id len h = (file, refl)

nothing_in : (found : Option WorldFile) → Absent ≡ found_of found → found ≡ None
nothing_in None h = refl
nothing_in (Some file) h = cc

pub file_read : (before probed after : View World) (path id : List ℕ) (len : ℕ) (result : Result Config BuildStop) → OnlyReads before probed → WhereTold before.told (λ world. File id len ≡ found_at world path) → IsStepAnswer probed after (λ world outcome. ReadsText (bytes_at world path) outcome) result → IsStepAnswer before after (λ world outcome. Configures world path outcome) result
file_read before probed after path id len (Ok config) only found h = λ world told.
    let f = file_in (file_at world path) id len (found world told) in
    record { file = f.0; lies = f.1; reads = subst (λ o. config_read (bytes_of o) ≡ Ok config) f.1 (h world (only.stays ∙ told)) }
file_read before probed after path id len (Err (Refused refusal)) only found h = λ world told.
    let f = file_in (file_at world path) id len (found world told) in
    let faulty = subst (λ o. IsFaulty (bytes_of o) refusal) f.1 (h world (only.stays ∙ told)) in
    inr (record { file = f.0; lies = f.1; fault = faulty.fault; faulty = faulty.faulty; told = faulty.told; told_is = faulty.told_is; refusal_is = faulty.refusal_is })
file_read before probed after path id len (Err Read) only found h = rose_later before.faults probed.faults after.faults only.never_falls h
file_read before probed after path id len (Err NoMemory) only found h = tt

pub file_absent : (before after : View World) (path : List ℕ) (stop : BuildStop) → IsAbsentStop path stop → WhereTold before.told (λ world. Absent ≡ found_at world path) → IsStepAnswer {A = Config} before after (λ world outcome. Configures world path outcome) (Err stop)
file_absent before after path stop is found =
    elim is [
      | inl told_so ↦ subst (λ (s : BuildStop). IsStepAnswer {A = Config} before after (λ world outcome. Configures world path outcome) (Err s)) (sym told_so) (λ world told. inl (record { absent = nothing_in (file_at world path) (found world told); refusal_is = refl }))
      | inr memory ↦ subst (λ (s : BuildStop). IsStepAnswer {A = Config} before after (λ world outcome. Configures world path outcome) (Err s)) (sym memory) tt
    ]
