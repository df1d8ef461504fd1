-- The configuration at a path of a world is one, or there is none.
use Rattle.std.proofs.Common.{◌≡◌, ◌∙◌, sym, ap, ℕ, List, Option, None, Some, Result, Ok, Err, inl, inr}
use Rattle.app_config.specs.declared.config.Config.{Config}
use Rattle.config_text.specs.Reading.{config_read}
use Rattle.config_text.specs.declared.faults.ConfigFault.{ConfigFault}
use Rattle.load_model.specs.World.{World, file_at}
use Rattle.load_model.specs.declared.world.WorldFile.{WorldFile}
use Rattle.refusals.specs.declared.refusal.Refusal.{Refusal}
use Rattle.app_config.specs.Ready.{IsReady}
use Rattle.config_files.specs.Configuring.{IsConfigured, IsUnconfigured}
use Rattle.config_text.proofs.ReadyConfigLemmas.{read_is_ready}

one_file : (o : Option WorldFile) (f g : WorldFile) → o ≡ Some f → o ≡ Some g → f ≡ g
one_file o f g p q = cc

one_value : (r : Result Config ConfigFault) (a b : Config) → r ≡ Ok a → r ≡ Ok b → a ≡ b
one_value r a b p q = cc

nothing_there : (o : Option WorldFile) (f : WorldFile) → o ≡ Some f → o ≡ None → ⊥
nothing_there o f p q = cc

no_fault : (r : Result Config ConfigFault) (a : Config) (fault : ConfigFault) → r ≡ Ok a → r ≡ Err fault → ⊥
no_fault r a fault p q = cc

pub one_configuration : (world : World) (path : List ℕ) (a b : Config) → IsConfigured world path a → IsConfigured world path b → a ≡ b
one_configuration world path a b p q =
    let same = one_file (file_at world path) p.file q.file p.lies q.lies in
    one_value (config_read q.file.bytes) a b (ap (λ (f : WorldFile). config_read f.bytes) (sym same) ∙ p.reads) q.reads

pub read_or_not : (world : World) (path : List ℕ) (config : Config) (refusal : Refusal) → IsConfigured world path config → IsUnconfigured world path refusal → ⊥
read_or_not world path config refusal p u =
    elim u [
      | inl absent ↦ nothing_there (file_at world path) p.file p.lies absent.absent
      | inr wrong ↦
          let same = one_file (file_at world path) p.file wrong.file p.lies wrong.lies in
          no_fault (config_read wrong.file.bytes) config wrong.fault (ap (λ (f : WorldFile). config_read f.bytes) (sym same) ∙ p.reads) wrong.faulty
    ]

pub configured_ready : (world : World) (path : List ℕ) (config : Config) → IsConfigured world path config → IsReady config
configured_ready world path config p = read_is_ready p.file.bytes config p.reads
