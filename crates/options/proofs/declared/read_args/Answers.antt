use Rattle.options.proofs.declared.read_args.Goals as goal

pub returns-clause-error_sound : goal.returns-clause-error_sound
returns-clause-error_sound c = rw (c.features.ensures, c.packages.ensures, c.precious.ensures) at c.read_args_of.ensures.error_sound

pub returns-clause-error_complete : goal.returns-clause-error_complete
returns-clause-error_complete c = rw (c.features.ensures, c.packages.ensures, c.precious.ensures) at c.read_args_of.ensures.error_complete
