use Rattle.user_seat_calls.proofs.timer.serve_timer.Goals as goal

pub returns-in-getCurrentTimestamp : goal.returns-in-getCurrentTimestamp
returns-in-getCurrentTimestamp c = λ args. rw c.in-getCurrentTimestamp.is (c.outcome_of_reading.ensures _ c.get_current_timestamp.ensures)
