-- What an opener answers of a path is what the path decides.
use Rattle.std.proofs.Common.{subst, ◌≢◌, ℕ, List, [], ◌∷◌, ◌≡◌, ◌∙◌, refl, sym, ap, Some, Result, Ok, Err}
use Rattle.byte_view.specs.declared.flaws.Flaw.{Flaw}
use Rattle.std.specs.Prelude.{IfErr, MatchResult}
use Rattle.answers.specs.Answers.{IsFaultOf}
use Rattle.path_text.specs.Path.{path_of, said_of_path}
use Rattle.path_text.specs.declared.absolute.PathFault.{PathFault}
use Rattle.path_text.specs.declared.absolute.PathFault.TheVariants.{Empty, Relative as NotRooted, HasNul, NotText, NoMemory as NoMemoryForPath}
use Rattle.load_model.specs.RunPaths.{Item}
use Rattle.load_model.specs.Candidates.{At, candidate_at, candidate_in, decided_by, decision, first_decision}
use Rattle.load_model.specs.Faces.{face_or_flaw}
use Rattle.load_model.specs.Opening.{IsOpened, OnlyGrew, OpenerView}
use Rattle.load_model.specs.World.{World, Kind, kind_of, Absent, Other, Object as IsObject, Damaged as IsDamaged}
use Rattle.load_model.specs.declared.faces.Face.{Face}
use Rattle.load_model.specs.declared.opening.Opened.TheVariants.{Absent as OpensNothing, Other as OpensOther, Object as OpensObject}
use Rattle.load_model.specs.declared.opening.OpenFault.{OpenFault}
use Rattle.load_model.specs.declared.opening.OpenFault.TheVariants.{Read, Damaged as OpensDamaged, NoMemory as OpensNoMemory}
use Rattle.load_model.specs.declared.refusals.LoadRefusal.TheVariants.{Damaged}
use Rattle.load_model.specs.declared.setting.Setting.{Setting}
use Rattle.answers.specs.First.{first_some}
use Rattle.search_paths.specs.HeldItems.{IsItemStop}
use Rattle.search_paths.specs.Searching.{Decides, IsAnswer, IsByOpening}
use Rattle.search_paths.specs.declared.hits.Hit.{Hit}
use Rattle.search_paths.specs.declared.hits.SearchStop.{SearchStop}
use Rattle.search_paths.specs.declared.hits.Hit.TheVariants.{Found, Missing}
use Rattle.search_paths.specs.declared.hits.SearchStop.TheVariants.{NoMemory, Open, RelativeItem, TokenUnset}

-- the one candidate, by its kind
decides_alone : (setting : Setting) (machine : ℕ) (world : World) (path : List ℕ) (kind : Kind Face Flaw) → setting.machine ≡ machine → kind_of face_or_flaw machine world path ≡ kind → first_decision face_or_flaw setting world (At path ∷ []) ≡ first_some (decided_by face_or_flaw setting world path kind ∷ [])
unfolding first_decision decision
decides_alone setting machine world path kind m is =
    ap (λ k. first_some (decided_by face_or_flaw setting world path k ∷ [])) (ap (λ n. kind_of face_or_flaw n world path) m ∙ is)

module _ (before after : OpenerView) (path : List ℕ) where
  pub absent : IsOpened before after path (Ok OpensNothing) → IsAnswer (Decides before (At path ∷ [])) before after (Ok Missing)
  absent h = λ world told setting m. decides_alone setting before.machine world path Absent m (h world told)

  pub other : IsOpened before after path (Ok OpensOther) → IsAnswer (Decides before (At path ∷ [])) before after (Ok Missing)
  other h = λ world told setting m. decides_alone setting before.machine world path Other m (h world told)

  pub object : (id : List ℕ) (place : ℕ) → OnlyGrew before after → IsOpened before after path (Ok (OpensObject id place)) → IsAnswer (Decides before (At path ∷ [])) before after (Ok (Found path id place))
  object id place grew h = (
    h.0,
    λ world told. let o = h.1 world told in record {
      face = o.face;
      stands = o.stands;
      found = λ setting m. decides_alone setting after.machine world path (IsObject o.file o.face) (m ∙ sym grew.machine) o.kind ∙ ap (λ i. Some (Ok (record { path = path; id = i; face = o.face }))) (sym o.id_is);
    },
  )

  pub fault : (f : OpenFault) → IsOpened before after path (Err f) → IsAnswer (Decides before (At path ∷ [])) before after (Err (Open f))
  fault Read h = h
  fault (OpensDamaged named flaw) h = λ world told setting m. let d = h.1 world told in
      decides_alone setting before.machine world path (IsDamaged d.file flaw) m d.kind ∙ ap (λ p. Some (Err (Damaged p flaw))) (sym h.0)
  fault OpensNoMemory h = h

-- ---- a text that spells no path

wanted_is : (f : PathFault) (wanted : Result (List ℕ) PathFault) → IsFaultOf (said_of_path f) wanted → f ≢ NoMemoryForPath → wanted ≡ Err f
wanted_is Empty wanted h other = h
wanted_is NotRooted wanted h other = h
wanted_is HasNul wanted h other = h
wanted_is NotText wanted h other = h
wanted_is NoMemoryForPath wanted h other = absurd (other refl)

pub no_path : (b : OpenerView) (text : List ℕ) (f : PathFault) (r : Result Hit SearchStop) → IsFaultOf (said_of_path f) (path_of text)
    → MatchResult r (λ hit. (hit ≡ Missing) × (f ≢ NoMemoryForPath)) (λ stop. stop ≡ NoMemory) → IsAnswer (Decides b (candidate_at (path_of text))) b b r
unfolding first_decision
no_path b text f (Ok hit) answer h =
    subst (λ x. IsAnswer (Decides b (candidate_at (path_of text))) b b (Ok x)) (sym h.0)
    (λ world told setting m. ap (λ p. first_decision face_or_flaw setting world (candidate_at p)) (wanted_is f (path_of text) answer h.1))
no_path b text f (Err stop) answer h = subst (λ s. IsAnswer (Decides b (candidate_at (path_of text))) b b (Err s)) (sym h) tt

pub no_path_alone : (f : PathFault) (r : Result Hit SearchStop) → MatchResult r (λ hit. (hit ≡ Missing) × (f ≢ NoMemoryForPath)) (λ stop. stop ≡ NoMemory) → IfErr r (λ stop. IsByOpening stop)
no_path_alone f (Ok hit) h = tt
no_path_alone f (Err stop) h = subst (λ s. IsByOpening s) (sym h) tt

-- ---- an item that is refused

pub refused_item : (b : OpenerView) (name : List ℕ) (item : Item) (stop : SearchStop) → IsItemStop item stop → IsAnswer (Decides b (candidate_in name item)) b b (Err stop)
unfolding first_decision decision
refused_item b name item (TokenUnset text) h = λ world told setting m. ap (λ i. first_decision face_or_flaw setting world (candidate_in name i)) h
refused_item b name item (RelativeItem text) h = λ world told setting m. ap (λ i. first_decision face_or_flaw setting world (candidate_in name i)) h
refused_item b name item (Open f) h = absurd h
refused_item b name item NoMemory h = tt
