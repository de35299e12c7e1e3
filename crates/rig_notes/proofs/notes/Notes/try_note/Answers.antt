use Rattle.rig_stage.proofs.Acting.{on_ok}
use Rattle.rig_notes.proofs.notes.Notes.try_note.Goals as goal

pub returns-in-Piece : goal.returns-in-Piece
returns-in-Piece g c = rw c.in-Piece.is (on_ok c.note_message.result (λ noted. noted c.args.taken.now) c.note_message.ensures)

pub returns-in-ModemPiece : goal.returns-in-ModemPiece
returns-in-ModemPiece g c = rw c.in-ModemPiece.is (on_ok c.note_answer.result (λ noted. noted c.args.asked.now c.args.taken.now) c.note_answer.ensures)

pub returns-in-Now : goal.returns-in-Now
returns-in-Now g c = rw c.in-Now.is (on_ok c.note_time.result (λ noted. noted c.args.asked.now c.args.taken.now) c.note_time.ensures)
