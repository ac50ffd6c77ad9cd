-- What the reader of words keeps, as the definitions see it.
use Rattle.std.specs.Option.{option_copied}
use Rattle.no_app.specs.declared.words.Request.{Request}
use Rattle.no_app.specs.declared.words.Heard as kept
use Rattle.no_app.specs.Words.{Asked, Heard}

-- a request as it was asked: its file and its budget
abbrev pub request_of : Request → Asked
request_of r = record { file = r.file.now; steps = r.steps }

-- what was heard so far: whether an option's value comes next, the file, and the budget
abbrev pub heard_of : kept.Heard → Heard
heard_of h = record { waiting = h.waiting; file = option_copied h.file; steps = h.steps }
