use Rattle.va_command.proofs.read_file.text_tables.Goals as goal

pub returns-clause-tables : goal.returns-clause-tables
returns-clause-tables c = (c.in_ok-file.file, c.in_ok-file.ensures.file, c.in_ok-text.ensures.text)
