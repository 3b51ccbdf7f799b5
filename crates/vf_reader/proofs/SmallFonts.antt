-- Small fonts, read, and what is wrong with changed ones.
use Rattle.std.proofs.Common.{[], ◌∷◌, ◌++◌, pos, take, refl, lit<, lit≤, inl, inr}
use Rattle.std.specs.Prelude.{slice_set}
use Rattle.std.proofs.lemmas.Bool.{true≢false}
use Rattle.dvi_commands.specs.Spelling.{Font, Pop, Push, Right, Set}
use Rattle.dvi_commands.specs.declared.command.CommandFault.TheVariants as command_fault
use Rattle.vf_reader.specs.Items.{IsItem}
use Rattle.vf_reader.specs.Fonts.{AreSound, IsItemSound, IsVfFile}
use Rattle.vf_reader.specs.Faults.{IsFirstFault}
use Rattle.vf_reader.specs.Examples.{bar, both, dot, file, other_dot, short}
use Rattle.vf_reader.specs.declared.faults.VfFault.TheVariants as fault
use Rattle.vf_reader.proofs.Defined.{local_sound}

whole_dot : IsItem dot
whole_dot = record { known = lit≤ tt; whole = refl }

whole_bar : IsItem bar
whole_bar = record { known = lit≤ tt; whole = refl }

whole_both : IsItem both
whole_both = record { known = lit≤ tt; whole = refl }

sound_both : IsItemSound (bar ∷ dot ∷ []) both
sound_both = record {
  packet = λ _. (
    Set (pos 65) ∷ Font (pos 1) ∷ Set (pos 65) ∷ [],
    (
      65 ∷ [],
      172 ∷ 65 ∷ [],
      record { whole = refl; spelled = (0, lit≤ tt, refl); allowed = refl },
      refl,
      (
        172 ∷ [],
        65 ∷ [],
        record { whole = refl; spelled = (0, lit≤ tt, refl); allowed = refl },
        refl,
        (65 ∷ [], [], record { whole = refl; spelled = (0, lit≤ tt, refl); allowed = refl }, refl, (refl, refl)),
      ),
    ),
  );
  local = λ other. absurd (true≢false other);
}

sound_dot : AreSound (dot ∷ [])
sound_dot = (tt, whole_dot, local_sound [] dot refl refl)

sound : AreSound (both ∷ bar ∷ dot ∷ [])
sound = ((sound_dot, whole_bar, local_sound (dot ∷ []) bar refl refl), whole_both, sound_both)

pub read : IsVfFile (file (dot ++ bar ++ both)) (both ∷ bar ∷ dot ∷ [])
read = record { begins = refl; sound = sound; unused = 248 ∷ []; whole = refl }

pub cut : IsFirstFault (take 57 (file (dot ++ bar ++ both))) fault.Short
cut = record { items = both ∷ bar ∷ dot ∷ []; rest = []; sound = sound; text = refl; after = inl (inl ((lit≤ tt, lit< tt), refl)) }

pub preamble : IsFirstFault (slice_set (file []) 1 89) fault.Preamble
preamble = refl

pub misplaced : IsFirstFault (file (247 ∷ [])) (fault.Misplaced 247)
misplaced = record { items = []; rest = 247 ∷ 248 ∷ 248 ∷ []; sound = tt; text = refl; after = inl (inr (inl refl, refl)) }

-- ---- single packets

pub command : IsFirstFault (file (short 1 (140 ∷ []))) (fault.Packet 65 (command_fault.Misplaced 140))
command = record {
  items = [];
  rest = short 1 (140 ∷ 248 ∷ 248 ∷ []);
  sound = tt;
  text = refl;
  after = inr (record {
    item = short 1 (140 ∷ []);
    more = 248 ∷ 248 ∷ [];
    here = refl;
    is = record { known = lit≤ tt; whole = refl };
    wrong = inl (refl, ([], inr (inl (lit< tt, command_fault.Misplaced 140, refl, refl))));
  });
}

pub cut_motion : IsFirstFault (file (short 1 (143 ∷ []))) (fault.Packet 65 command_fault.Short)
cut_motion = record {
  items = [];
  rest = short 1 (143 ∷ 248 ∷ 248 ∷ []);
  sound = tt;
  text = refl;
  after = inr (record {
    item = short 1 (143 ∷ []);
    more = 248 ∷ 248 ∷ [];
    here = refl;
    is = record { known = lit≤ tt; whole = refl };
    wrong = inl (refl, ([], inr (inl (lit< tt, command_fault.Short, refl, refl))));
  });
}

pub pop : IsFirstFault (file (short 1 (142 ∷ []))) (fault.Unbalanced 65)
pop = record {
  items = [];
  rest = short 1 (142 ∷ 248 ∷ 248 ∷ []);
  sound = tt;
  text = refl;
  after = inr (record {
    item = short 1 (142 ∷ []);
    more = 248 ∷ 248 ∷ [];
    here = refl;
    is = record { known = lit≤ tt; whole = refl };
    wrong = inl (refl, ([], inr (inr (record { command = Pop; prefix = 142 ∷ []; rest = []; begins = record { whole = refl; spelled = (0, refl, refl); allowed = refl }; wrong = refl }))));
  });
}

pub push : IsFirstFault (file (short 1 (141 ∷ []))) (fault.Unbalanced 65)
push = record {
  items = [];
  rest = short 1 (141 ∷ 248 ∷ 248 ∷ []);
  sound = tt;
  text = refl;
  after = inr (record {
    item = short 1 (141 ∷ []);
    more = 248 ∷ 248 ∷ [];
    here = refl;
    is = record { known = lit≤ tt; whole = refl };
    wrong = inl (refl, (Push ∷ [], (141 ∷ [], [], record { whole = refl; spelled = (0, refl, refl); allowed = refl }, refl, inl (refl, lit< tt, refl))));
  });
}

pub motion : IsFirstFault (file (short 5 (146 ∷ 1 ∷ 0 ∷ 0 ∷ 0 ∷ []))) (fault.Dimension 65)
motion = record {
  items = [];
  rest = short 5 (146 ∷ 1 ∷ 0 ∷ 0 ∷ 0 ∷ 248 ∷ 248 ∷ []);
  sound = tt;
  text = refl;
  after = inr (record {
    item = short 5 (146 ∷ 1 ∷ 0 ∷ 0 ∷ 0 ∷ []);
    more = 248 ∷ 248 ∷ [];
    here = refl;
    is = record { known = lit≤ tt; whole = refl };
    wrong = inl (
      refl,
      (
        [],
        inr (inr (record {
          command = Right (pos 16777216);
          prefix = 146 ∷ 1 ∷ 0 ∷ 0 ∷ 0 ∷ [];
          rest = [];
          begins = record { whole = refl; spelled = (4, (lit≤ tt, lit≤ tt, lit< tt), refl); allowed = refl };
          wrong = refl;
        })),
      ),
    );
  });
}

-- ---- local fonts

pub other_font : IsFirstFault (file (dot ++ other_dot)) (fault.LocalDef (pos 0))
other_font = record {
  items = dot ∷ [];
  rest = other_dot ++ 248 ∷ 248 ∷ [];
  sound = sound_dot;
  text = refl;
  after = inr (record { item = other_dot; more = 248 ∷ 248 ∷ []; here = refl; is = record { known = lit≤ tt; whole = refl }; wrong = inr (refl, refl) });
}
