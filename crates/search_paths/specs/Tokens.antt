-- The tokens of the code, as the definition of run paths has them.
use Rattle.std.specs.Prelude.{ℕ, List, [], ◌∷◌, Option, None}
use Rattle.load_model.specs.RunPaths.{Origin, Lib, Platform, Token as TokenMeant, Spelled as SpelledMeant, token_at}
use Rattle.search_paths.specs.declared.tokens.Spelled.{Spelled}
use Rattle.search_paths.specs.declared.tokens.Token.{Token}
use Rattle.search_paths.specs.declared.tokens.Token.TheVariants.{Origin as ReadOrigin, Lib as ReadLib, Platform as ReadPlatform}

abbrev pub token_meant : Token → TokenMeant
token_meant ReadOrigin = Origin
token_meant ReadLib = Lib
token_meant ReadPlatform = Platform

abbrev pub spelled_as : Spelled → SpelledMeant
spelled_as s = record { token = token_meant s.token; length = s.length }

-- The token at the front of a text.
abbrev pub token_in : List ℕ → Option SpelledMeant
token_in [] = None
token_in (c ∷ text) = token_at c text
