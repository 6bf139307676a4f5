use lib.ListN.{length-set}
use Rattle.frames.proofs.Laws.Writing.{reply-put}
use Rattle.frames.proofs.Laws.Values.{reply-fits}
use native.Mathlib.Omega.{arith}
use Rattle.frames.proofs.put.reply.Goals as goal

pub overflow_cast-buffer : goal.overflow_cast-buffer
overflow_cast-buffer c = let f = reply-fits c.args.f.now c.requires.0 in omega arith

pub bounds-buffer-1 : goal.bounds-buffer-1
bounds-buffer-1 c = simp length-set (omega arith)

pub overflow_cast-buffer-2 : goal.overflow_cast-buffer-2
overflow_cast-buffer-2 c = let f = reply-fits c.args.f.now c.requires.0 in omega arith

pub bounds-buffer-2 : goal.bounds-buffer-2
bounds-buffer-2 c = simp length-set (omega arith)

pub overflow_cast-buffer-3 : goal.overflow_cast-buffer-3
overflow_cast-buffer-3 c = let f = reply-fits c.args.f.now c.requires.0 in omega arith

pub bounds-buffer-3 : goal.bounds-buffer-3
bounds-buffer-3 c = simp length-set (omega arith)

pub overflow_cast-buffer-4 : goal.overflow_cast-buffer-4
overflow_cast-buffer-4 c = let f = reply-fits c.args.f.now c.requires.0 in omega arith

pub returns : goal.returns
returns c = reply-put c.args.buffer.now _ _ _ _ _ c.requires.1
