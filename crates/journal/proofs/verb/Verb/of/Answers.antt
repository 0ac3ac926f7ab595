use Rattle.std.proofs.Common.{◌∙◌, rules, tests}
use Rattle.std.specs.Str.{bytes_eq}
use Rattle.std.proofs.lemmas.Iterator.{YieldsList-from_slice}
use Rattle.std.proofs.lemmas.Iterator.Search.{find_from_yields_List}
use Rattle.journal.specs.Verbs.{verb_text, verbs}
use Rattle.journal.proofs.verb.Verb.of.Goals as goal

pub returns : goal.returns
returns c = c.copied.ensures ∙ find_from_yields_List (λ v. bytes_eq c.args.word.now (verb_text v)) _ _ c.find.result c.find.ensures.ran (YieldsList-from_slice verbs cc) (λ x b q k. search (rules, tests))
