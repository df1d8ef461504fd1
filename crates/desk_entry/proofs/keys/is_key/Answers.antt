use Rattle.std.proofs.lemmas.Bool.{both_ways}
use Rattle.desk_entry.proofs.KeyLemmas.{key_at, plain_key, with_locale, without_locale}
use Rattle.desk_entry.proofs.keys.is_key.Goals as goal

pub returns-then-is_key_name : goal.returns-then-is_key_name
returns-then-is_key_name c =
    let text = c.args.text.now in
    let name = c.in-Some.name.now in
    let rest = c.in-Some.rest.now in (
      λ fine. key_at text name rest c.in-Some.ensures.1 (c.is_key_name.ensures.0 c.if-is_key_name.true) (c.ends_locale.ensures.0 fine),
      λ key. c.ends_locale.ensures.1 (with_locale text name rest c.in-Some.ensures.0 c.in-Some.ensures.1 key).1,
    )

pub returns-else-is_key_name : goal.returns-else-is_key_name
returns-else-is_key_name c =
    let text = c.args.text.now in
    let name = c.in-Some.name.now in
    let rest = c.in-Some.rest.now in (
      λ odd. absurd (both_ways c.is_key_name.result c.if-is_key_name.false odd),
      λ key. c.is_key_name.ensures.1 (with_locale text name rest c.in-Some.ensures.0 c.in-Some.ensures.1 key).0,
    )

pub returns-in-None : goal.returns-in-None
returns-in-None c = (
  λ fine. plain_key c.args.text.now (c.is_key_name-in-None.ensures.0 fine),
  λ key. c.is_key_name-in-None.ensures.1 (without_locale c.args.text.now c.in-None.ensures key),
)
