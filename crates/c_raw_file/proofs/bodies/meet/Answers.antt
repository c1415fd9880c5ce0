use Rattle.c_raw_file.proofs.bodies.meet.Goals as goal

pub returns-in_ok-put_break-in-Leave : goal.returns-in_ok-put_break-in-Leave
returns-in_ok-put_break-in-Leave c =
    rw c.in-Leave.is (c.in_ok-put_break-in-Leave.ensures c.in-Leave.at c.args.body.now.items)

pub returns-in_ok-put_end-in-End : goal.returns-in_ok-put_end-in-End
returns-in_ok-put_end-in-End c = rw c.in-End.is (c.in_ok-put_end-in-End.ensures c.in-End.at c.args.body.now.items)
