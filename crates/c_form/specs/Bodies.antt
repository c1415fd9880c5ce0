-- The bodies of a module as the rules read them: flat lists of statements.
use Rattle.std.specs.Prelude.{Bool, List, []}
use Rattle.c_tree.specs.rules.Bodies.{Item, of_simple, of_test, RawBody, function_body, plain_body, setup_of_model, setup_of_instance, evaluation}
use Rattle.c_raw.specs.Blocks.{at_view, simple_view, block_view, is_body}
use Rattle.c_raw.specs.Views.{function_view}
use Rattle.c_raw.specs.declared.body.RawStatement.{RawStatement}
use Rattle.c_raw.specs.declared.body.RawStatement.TheVariants.{Simple, Leave, If, For, End}
use Rattle.c_raw.specs.declared.file.RawFunction.{RawFunction}
use Rattle.c_form.specs.declared.body.Body.{Body}
use Rattle.c_form.specs.declared.body.Body.TheVariants.{Function, SetupModel, SetupInstance, Evaluation}

abbrev pub body_view : Body → RawBody
body_view (Function j f) = function_body (j, function_view f.now)
body_view (SetupModel statements) = plain_body setup_of_model (block_view statements.now)
body_view (SetupInstance statements) = plain_body setup_of_instance (block_view statements.now)
body_view (Evaluation statements) = plain_body evaluation (block_view statements.now)

-- the statements of a body
abbrev pub statements_of : Body → List RawStatement
statements_of (Function j f) = RawFunction.body f.now
statements_of (SetupModel statements) = statements.now
statements_of (SetupInstance statements) = statements.now
statements_of (Evaluation statements) = statements.now

-- a body is one block
abbrev pub is_one_block : Body → Bool
is_one_block b = is_body (statements_of b)

-- what a rule finds in the item of a statement, where it has one
abbrev pub in_statement : {T : Type 0} → (Item → List T) → RawStatement → List T
in_statement part (Simple s) = part (of_simple (simple_view s))
in_statement part (Leave at test) = part (of_test (at_view test))
in_statement part (If test) = part (of_test (at_view test))
in_statement part For = []
in_statement part (End at) = []
