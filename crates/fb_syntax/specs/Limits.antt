-- The language's limits.
use Rattle.std.specs.Prelude.{ℕ}

-- the bytes of a source
abbrev pub longest_source : ℕ
longest_source = 1048576

-- a body has fewer statements than this, since each has a byte and more
abbrev pub longest_body : ℕ
longest_body = longest_source

-- the blocks of a body that are open at once, its own included
abbrev pub deepest_block : ℕ
deepest_block = 32

-- of `(`, `[`, `not` and unary `-` that are open at once in an expression
abbrev pub deepest : ℕ
deepest = 32

-- the operands of a chain, and the items of a list
abbrev pub longest_list : ℕ
longest_list = 1024

abbrev pub most_services : ℕ
most_services = 256

-- of a service
abbrev pub most_methods : ℕ
most_methods = 64

-- of a method, and the arguments of a call
abbrev pub most_params : ℕ
most_params = 16

-- of a body, in all of its blocks
abbrev pub most_calls : ℕ
most_calls = 1024

-- of a call
abbrev pub most_handlers : ℕ
most_handlers = 16

-- of a `repeat`
abbrev pub most_turns : ℕ
most_turns = 1000
