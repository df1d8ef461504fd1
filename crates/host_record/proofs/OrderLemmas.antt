-- Lines that come in order, what they say, and where they lead.
use Rattle.std.proofs.Common.{◌≡◌, ◌∙◌, sym, ap, List, [], ◌∷◌, ◌++◌, true, subst, append_assoc, append-nil, map, refl}
use Rattle.std.specs.List.{AllByRecursion}
use Rattle.std.proofs.lemmas.List.Sums.{fold-append}
use Rattle.host_record.specs.Lines.{IsRecordLine}
use Rattle.host_record.specs.Said.{section_of, said, may_follow, is_right}
use Rattle.host_record.specs.Grammar.{ComeInOrder, section_after, said_after}
use Rattle.host_record.specs.declared.lines.Line.{Line}
use Rattle.host_record.specs.declared.lines.Section.{Section}
use Rattle.host_record.specs.declared.records.Record.{Record}

pub come_on : (section : Section) (r : Record) (xs ys : List Line) → ComeInOrder section r xs → ComeInOrder (section_after section xs) (said_after r xs) ys → ComeInOrder section r (xs ++ ys)
come_on section r [] ys p q = q
come_on section r (x ∷ xs) ys p q = (p.0, come_on (section_of x) (said r x) xs ys p.1 q)

-- the lines may come here, lead to such a section, and then this is said
pub record Comes (section : Section) (r : Record) (lines : List Line) (P : Section → Type 0) (after : Record) : Type 0 where
  pub each : ComeInOrder section r lines
  pub leads : P (section_after section lines)
  pub tells : said_after r lines ≡ after

-- lines, and others wherever they lead
pub comes_on : (section : Section) (r middle after : Record) (xs ys : List Line) (P Q : Section → Type 0) → Comes section r xs P middle → ((s : Section) → P s → Comes s middle ys Q after) → Comes section r (xs ++ ys) Q after
comes_on section r middle after xs ys P Q a b =
    let c = b (section_after section xs) a.leads in
    record {
      each = come_on section r xs ys a.each (subst (λ (x : Record). ComeInOrder (section_after section xs) x ys) (sym a.tells) c.each);
      leads = subst Q (sym (fold-append (λ (s : Section) (line : Line). section_of line) section xs ys)) c.leads;
      tells = fold-append said r xs ys ∙ (ap (λ x. said_after x ys) a.tells ∙ c.tells);
    }

-- lines of one kind, each of which adds one value
pub record Kind {X : Type 0} (f : X → Line) (state : List X → Record) (section : Section) (Good : X → Type 0) : Type 0 where
  pub stands : (x : X) → section_of (f x) ≡ section
  pub follows : (x : X) → may_follow section (f x) ≡ true
  pub fits : (x : X) → Good x → IsRecordLine (f x)
  pub right : (had : List X) (x : X) → Good x → is_right (state had) (f x) ≡ true
  pub adds : (had : List X) (x : X) → Good x → said (state had) (f x) ≡ state (had ++ x ∷ [])

pub kind_comes : {X : Type 0} (f : X → Line) (state : List X → Record) (section : Section) (Good : X → Type 0) → Kind f state section Good → (from : Section) (P : Section → Type 0) (had xs : List X) → (xs ≡ [] → P from) → P section → ((x : X) → may_follow from (f x) ≡ true) → AllByRecursion Good xs → Comes from (state had) (map f xs) P (state (had ++ xs))
kind_comes f state section Good k from P had [] p q follow g = record { each = tt; leads = p refl; tells = ap state (sym (append-nil had)) }
kind_comes f state section Good k from P had (x ∷ xs) p q follow g =
    let rest = kind_comes f state section Good k section P (had ++ x ∷ []) xs (λ _. q) q k.follows g.1 in
    record {
      each = (
        record { fits = k.fits x g.0; follows = follow x; right = k.right had x g.0 },
        subst (λ (s : Section). ComeInOrder s (said (state had) (f x)) (map f xs)) (sym (k.stands x))
            (subst (λ (r : Record). ComeInOrder section r (map f xs)) (sym (k.adds had x g.0)) rest.each),
      );
      leads = subst (λ (s : Section). P (section_after s (map f xs))) (sym (k.stands x)) rest.leads;
      tells = ap (λ r. said_after r (map f xs)) (k.adds had x g.0) ∙ (rest.tells ∙ ap state (append_assoc had (x ∷ []) xs));
    }
