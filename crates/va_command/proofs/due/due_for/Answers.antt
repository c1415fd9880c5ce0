use Rattle.std.proofs.Common.{rules}
use Rattle.std.specs.Prelude.{map, string_bytes}
use Rattle.va_preproc.specs.Answers.{seen}
use Rattle.va_command.specs.Requests.{IsRequest, compile, read}
use Rattle.va_command.proofs.Dues.{if_ok, is_due, asks_words}
use Rattle.va_command.proofs.due.due_for.Goals as goal

pub returns-in-Some-Compile-clause-due : goal.returns-in-Some-Compile-clause-due
returns-in-Some-Compile-clause-due g c =
    let r = c.in-Some-Compile.ensures in
    let request = compile c.in-Some-Compile.file.now in
    let asked : IsRequest (map string_bytes c.args.words.now) (compile c.in-Some-Compile.file.now) = search (rules, r) in
    if_ok c.compile.result _ _ (λ due d. is_due g.A.Algebra.ops g.A.Algebra.valid _ _ _ request asked due.status due.text.items d)
    c.compile.ensures.due

pub returns-in-Some-Compile-clause-asked : goal.returns-in-Some-Compile-clause-asked
returns-in-Some-Compile-clause-asked g c =
    let r = c.in-Some-Compile.ensures in
    let F = g.F.Files in
    let files = seen (F.asked c.args.files.now) (F.asked c.compile.new.files) (F.faults c.args.files.now) (F.faults c.compile.new.files) in
    let asked : IsRequest (map string_bytes c.args.words.now) (compile c.in-Some-Compile.file.now) = search (rules, r) in
    asks_words (F.holds c.args.files.now) files (map string_bytes c.args.words.now) (compile c.in-Some-Compile.file.now) asked c.compile.ensures.asked

pub returns-in-Some-Read-clause-due : goal.returns-in-Some-Read-clause-due
returns-in-Some-Read-clause-due g c =
    let r = c.in-Some-Read.ensures in
    let request = read c.in-Some-Read.file.now in
    let asked : IsRequest (map string_bytes c.args.words.now) (read c.in-Some-Read.file.now) = search (rules, r) in
    if_ok c.read_tables.result _ _ (λ due d. is_due g.A.Algebra.ops g.A.Algebra.valid _ _ _ request asked due.status due.text.items d)
    c.read_tables.ensures.due

pub returns-in-Some-Read-clause-asked : goal.returns-in-Some-Read-clause-asked
returns-in-Some-Read-clause-asked g c =
    let r = c.in-Some-Read.ensures in
    let F = g.F.Files in
    let files = seen (F.asked c.args.files.now) (F.asked c.read_tables.new.files) (F.faults c.args.files.now) (F.faults c.read_tables.new.files) in
    let asked : IsRequest (map string_bytes c.args.words.now) (read c.in-Some-Read.file.now) = search (rules, r) in
    asks_words (F.holds c.args.files.now) files (map string_bytes c.args.words.now) (read c.in-Some-Read.file.now) asked c.read_tables.ensures.asked
