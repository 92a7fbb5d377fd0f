use Rattle.std.specs.Prelude.{Ok, Err}
use Rattle.cachefile.proofs.Grammar.{read_sound, read_complete, read_error_sound, read_named}
use Rattle.cachefile.proofs.cache.read_cache.Goals as goal

pub returns-clause-sound : goal.returns-clause-sound
returns-clause-sound c = read_sound c.args.text.now c.read_text.result c.read_text.ensures

pub returns-clause-complete : goal.returns-clause-complete
returns-clause-complete c = λ settings cache. read_complete c.args.text.now c.read_text.result (Ok settings) c.read_text.ensures cache

pub returns-clause-error_sound : goal.returns-clause-error_sound
returns-clause-error_sound c = read_error_sound c.args.text.now c.read_text.result c.read_text.ensures

pub returns-clause-error_complete : goal.returns-clause-error_complete
returns-clause-error_complete c = λ fault cache. read_complete c.args.text.now c.read_text.result (Err fault) c.read_text.ensures cache

pub returns-clause-names : goal.returns-clause-names
returns-clause-names c = read_named c.args.text.now c.read_text.result c.read_text.ensures
